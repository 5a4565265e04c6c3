-- What is decided of the items in ascending identity, with their indices as they were given: so no list of it follows the order in which they were given.
-- Source: docs/REFERENCE.md, 'Decision'.
use Rattle.std.specs.Prelude.{cond, List, ℕ, ◌/◌, length}
use Rattle.lists.specs.Lists.{sort}
use Rattle.lists.specs.Ordered.{up_to}
use Rattle.arithmetic.specs.declared.standing.ChiSquare.{ChiSquare}
use Rattle.decision_items.specs.Layout.{item_size}
use Rattle.decision_items.specs.Items.{lower_at}
use Rattle.decision_rule.specs.Outcome.{Outcome}
use Rattle.decision_rule.specs.Related.{item_relations}
use Rattle.decision_rule.specs.Standing.{decide}
use Rattle.decision.specs.Arrays.{DecisionArrays}
use Rattle.decision.specs.Answer.{is_bad, arrays_of, refused_decision}

-- the indices of the items, in ascending identity
abbrev pub by_identity : List ℕ → List ℕ
by_identity s = sort (lower_at s) (up_to (length s / item_size))

abbrev pub sorted_outcome : List ℕ → Outcome ℕ ChiSquare
sorted_outcome s = decide (item_relations s) (by_identity s)

-- 8 where the decision in the order given says 8
unfoldable pub sorted_arrays : List ℕ → DecisionArrays
sorted_arrays s = cond (is_bad s) refused_decision (arrays_of (sorted_outcome s))
