-- No claim rests on these definitions: they say what is decided, for each order in which it is answered.
use Rattle.std.specs.Prelude.{List, ℕ}
use Rattle.arithmetic.specs.declared.standing.ChiSquare.{ChiSquare}
use Rattle.decision_rule.specs.Outcome.{Outcome}
use Rattle.decision.specs.Arrays.{DecisionArrays}
use Rattle.decision.specs.Answer.{outcome, decided_arrays}
use Rattle.decision.specs.Sorted.{sorted_outcome, sorted_arrays}
use Rattle.decision_bytes.specs.declared.Order.{Order}
use Rattle.decision_bytes.specs.declared.Order.TheVariants.{Given, Identity}

abbrev pub outcome_in : Order → List ℕ → Outcome ℕ ChiSquare
outcome_in Given s = outcome s
outcome_in Identity s = sorted_outcome s

abbrev pub arrays_in : Order → List ℕ → DecisionArrays
arrays_in Given s = decided_arrays s
arrays_in Identity s = sorted_arrays s
