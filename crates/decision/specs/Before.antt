-- The decision as the Rust has it, by agreement as the Rust has it, whose chi-square is a number, infinite where nothing was
-- measured. What is claimed is that nothing else of a decision changed; the theorem is `decided-as-before` in proofs/Remeasured.
-- Source: docs/REFERENCE.md, 'Decision', and standing.rs of sky-commons/tally.
use Rattle.std.specs.Prelude.{◌≡◌, Bool, false, not, ◌&&◌, List, map, ℕ, ◌/◌, Float, length}
use Rattle.std.specs.Float.{inf}
use Rattle.lists.specs.Ordered.{up_to}
use Rattle.arithmetic.specs.Before.{agreement_before, agreed_before}
use Rattle.arithmetic.specs.declared.standing.Measure.{Measure}
use Rattle.arithmetic.specs.declared.standing.ChiSquare.{ChiSquare}
use Rattle.arithmetic.specs.declared.standing.ChiSquare.TheVariants.{Measured, Unmeasured}
use Rattle.decision_items.specs.Layout.{item_size}
use Rattle.decision_items.specs.Claimed.{claim_of}
use Rattle.decision_items.specs.Items.{item_record, item_consistent, subset_at}
use Rattle.decision_rule.specs.Standing.{Relations, decide}
use Rattle.decision_rule.specs.Outcome.{Refused, Outcome}
use Rattle.decision_rule.specs.Related.{item_relations}
use Rattle.decision.specs.Answer.{outcome}

-- item i against its subset j
abbrev pub measured_before : List ℕ → ℕ → ℕ → Measure
measured_before s i j = agreement_before (claim_of (item_record s j)) (claim_of (item_record s i))

-- j is a consistent subset of i, and they disagreed
abbrev pub disagreed_before : List ℕ → ℕ → ℕ → Bool
disagreed_before s i j = item_consistent s j && (subset_at s j i && not (agreed_before (measured_before s i j)))

-- the relations of before: all others are those of now
abbrev pub relations_before : List ℕ → Relations ℕ Float
relations_before s = record {
  disagrees = disagreed_before s;
  chi_square = λ i j. (measured_before s i j).chi2;
  outstands = (item_relations s).outstands;
  passed = (item_relations s).passed;
  within = (item_relations s).within;
  lower = (item_relations s).lower;
  ahead = (item_relations s).ahead;
}

abbrev pub outcome_before : List ℕ → Outcome ℕ Float
outcome_before s = decide (relations_before s) (up_to (length s / item_size))

-- the number of before: infinite where there is none now
abbrev pub number_before : ChiSquare → Float
number_before (Measured x) = x
number_before Unmeasured = inf false

abbrev pub refused_before : Refused ℕ ChiSquare → Refused ℕ Float
refused_before x = record { item = x.item; against = x.against; chi2 = number_before x.chi2; superseded = x.superseded }

-- The same items are ranked, in the same order, dominated and refused, each refusal names the same, and it has the number of before.
abbrev pub DecidedAsBefore : Type 0
DecidedAsBefore =
    (s : List ℕ)
    → outcome_before s
    ≡ record { ranked = (outcome s).ranked; dominated = (outcome s).dominated; refused = map refused_before (outcome s).refused }
