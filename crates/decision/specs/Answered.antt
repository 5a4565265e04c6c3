-- No claim rests on these definitions: they say what the code answers, whose lists have no unused places.
use Rattle.std.specs.Prelude.{◌≡◌, ℕ, map, Option, None, Some}
use Rattle.arithmetic.specs.declared.standing.ChiSquare.{ChiSquare}
use Rattle.decision_rule.specs.Outcome.{Outcome}
use Rattle.decision.specs.declared.Decision as D
use Rattle.decision.specs.Arrays.{DecisionArrays}
use Rattle.decision.specs.Answer.{indices, refusal, refusals, refused_decision}

-- d is what is decided
pub record Says {N : ℕ} (d : D.Decision N) (o : Outcome ℕ ChiSquare) : Type 0 where
  pub ranked : d.ranked.items ≡ o.ranked
  pub dominated : d.dominated.items ≡ o.dominated
  pub refusals : d.refusals.items ≡ map refusal o.refused

-- the decision that an answer stands for: where there is none, the items are bad
abbrev pub answered : {N : ℕ} → Option (D.Decision N) → DecisionArrays
answered None = refused_decision
answered (Some d) = record { answer = 0; ranked = indices d.ranked.items; dominated = indices d.dominated.items; refusals = refusals d.refusals.items }
