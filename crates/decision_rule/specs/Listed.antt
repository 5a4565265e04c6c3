-- No claim rests on these definitions: they say how the items of a list relate, by their places. Where the list has no item nothing holds.
use Rattle.std.specs.Prelude.{ℕ, Bool, false, ◌&&◌, List, Option, Some, None, slice_get}
use Rattle.octets.specs.Order.{same}
use Rattle.arithmetic.specs.Agree.{chi_square_in}
use Rattle.arithmetic.specs.declared.standing.ChiSquare.{ChiSquare}
use Rattle.arithmetic.specs.declared.standing.ChiSquare.TheVariants.{Unmeasured}
use Rattle.decision_items.specs.Values as V
use Rattle.decision_items.specs.declared.item.Item.{Item}
use Rattle.decision_rule.specs.Standing.{Relations}

-- what is said of one and of two, or d where one is missing
abbrev pub of_one : (Item → Bool) → Option Item → Bool
of_one test None = false
of_one test (Some x) = test x

abbrev pub of_two : {B : Type 0} → B → (Item → Item → B) → Option Item → Option Item → B
of_two d f None y = d
of_two d f (Some x) None = d
of_two d f (Some x) (Some y) = f x y

abbrev pub at_two : {B : Type 0} → B → (Item → Item → B) → List Item → ℕ → ℕ → B
at_two d f l i j = of_two d f (slice_get l i) (slice_get l j)

abbrev pub is_consistent : List Item → ℕ → Bool
is_consistent l i = of_one (λ x. x.candidate.consistent) (slice_get l i)

abbrev pub apart_at : List Item → ℕ → ℕ → Bool
apart_at l i j = at_two false V.is_apart l i j

-- the item at j is a subset of that at i
abbrev pub has_subset : List Item → ℕ → ℕ → Bool
has_subset l i j = at_two false V.is_subset l j i

abbrev pub have_same_inputs : List Item → ℕ → ℕ → Bool
have_same_inputs l i j = at_two false (λ x y. same x.inputs.now y.inputs.now) l i j

-- the relations of the items of a list, by their places
abbrev pub relations : List Item → Relations ℕ ChiSquare
relations l = record {
  disagrees = at_two false V.disagrees l;
  chi_square = at_two Unmeasured (λ x y. chi_square_in (V.agreement x y)) l;
  outstands = at_two false V.outstands l;
  passed = λ i. of_one V.has_passed (slice_get l i);
  within = at_two false (λ x y. V.is_subset x y && same x.inputs.now y.inputs.now) l;
  lower = at_two false V.lower l;
  ahead = at_two false V.ahead l;
}
