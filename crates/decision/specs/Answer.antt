-- The whole answer of `decide` (docs/REFERENCE.md, 'Answers' and 'Answer of a decision'): 8 for over 96 items, no whole number of items, a malformed item, or two with one identity;
-- else 0 with what is decided, in arrays with counts whose unused places are fixed.
use Rattle.std.specs.Prelude.{Bool, false, not, cond, ◌||◌, List, [], ◌++◌, map, ℕ, ◌-◌, ◌*◌, ◌/◌, ◌%◌, ltb, eqb, length, replicate}
use Rattle.std.specs.List.{list_any}
use Rattle.lists.specs.Ordered.{up_to}
use Rattle.record.specs.Formed.{well_formed}
use Rattle.decision_items.specs.Layout.{max_items, item_size}
use Rattle.decision_items.specs.Items.{item_record, same_identity}
use Rattle.decision_rule.specs.Standing.{decide}
use Rattle.decision_rule.specs.Outcome.{Refused, Outcome}
use Rattle.decision_rule.specs.Related.{item_relations}
use Rattle.decision.specs.declared.Refusal.{Refusal}
use Rattle.decision.specs.Arrays.{Refusals, Indices, DecisionArrays}
use Rattle.arithmetic.specs.declared.standing.ChiSquare.{ChiSquare}
use Rattle.arithmetic.specs.declared.standing.ChiSquare.TheVariants.{Unmeasured}

-- item i is malformed, or has the identity of one before it
unfoldable pub bad_at : List ℕ → ℕ → Bool
bad_at s i = not (well_formed (item_record s i)) || list_any (same_identity s i) (up_to i)

-- over 96 items, no whole number of items, a malformed one, or two with one identity
unfoldable pub is_bad : List ℕ → Bool
is_bad s =
    ltb (max_items * item_size) (length s)
    || (not (eqb (length s % item_size) 0) || list_any (bad_at s) (up_to (length s / item_size)))

-- what is decided of the items in s, by their indices
abbrev pub outcome : List ℕ → Outcome ℕ ChiSquare
outcome s = decide (item_relations s) (up_to (length s / item_size))

unfoldable pub indices : List ℕ → Indices
indices l = record { list = l ++ replicate (max_items - length l) 0; count = length l }

abbrev pub refusal : Refused ℕ ChiSquare → Refusal
refusal x = record { refused = x.item; kept = x.against; chi2 = x.chi2; superseded = x.superseded }

-- what fills the unused places of the refusals
abbrev pub no_refusal : Refusal
no_refusal = record { refused = 0; kept = 0; chi2 = Unmeasured; superseded = false }

unfoldable pub refusals : List Refusal → Refusals
refusals l = record { list = l ++ replicate (max_items - length l) no_refusal; count = length l }

unfoldable pub arrays_of : Outcome ℕ ChiSquare → DecisionArrays
arrays_of o =
    record { answer = 0; ranked = indices o.ranked; dominated = indices o.dominated; refusals = refusals (map refusal o.refused) }

unfoldable pub refused_decision : DecisionArrays
refused_decision = record { answer = 8; ranked = indices []; dominated = indices []; refusals = refusals [] }

unfoldable pub decided_arrays : List ℕ → DecisionArrays
decided_arrays s = cond (is_bad s) refused_decision (arrays_of (outcome s))
