-- What has been shown of the items once `decide` has refused none of them.
use mathlib.Core.Path.{◌≡◌, sym, ap, ◌∙◌}
use mathlib.Core.Bool.{false, not, ◌||◌}
use mathlib.Core.List.{List}
use Prim.Native.Nat.{ℕ, ◌*◌, ◌/◌, ◌%◌, ◌≤◌}
use native.Mathlib.Omega.{arith}
use lib.Dec.{ltb, eqb}
use lib.ListN.{length}
use borrow.Author.Tests.{eqb-true, ltb-false}
use Rattle.std.specs.List.{list_any}
use Rattle.lists.proofs.Bools.{not-false-t, neither_left, neither_right}
use Rattle.lists.specs.Ordered.{up_to}
use Rattle.lists.proofs.Lists.{any-no, up_of}
use Rattle.record.specs.Formed.{well_formed}
use Rattle.decision_items.specs.Layout.{max_items, item_size}
use Rattle.decision_items.specs.Items.{item_record, same_identity}
use Rattle.decision_items.specs.Values.{Whole}
use Rattle.decision_rule.specs.Standing.{decide}
use Rattle.decision_rule.specs.Related.{item_relations}
use Rattle.decision.specs.Answer.{bad_at, is_bad, outcome}

-- they are not too many
pub few-items : (s : List ℕ) → is_bad s ≡ false → length s / item_size ≤ max_items
unfolding is_bad
few-items s e = let l = ltb-false (max_items * item_size) (length s) (neither_left (ltb (max_items * item_size) (length s)) _ e) in omega arith

pub whole_of : (s : List ℕ) (n : ℕ) → n ≤ max_items → length s ≡ n * item_size → list_any (bad_at s) (up_to n) ≡ false → Whole s n
unfolding bad_at
whole_of s n h l e = record {
  few = h;
  long = l;
  formed = λ i p. not-false-t (well_formed (item_record s i)) (neither_left (not (well_formed (item_record s i))) (list_any (same_identity s i) (up_to i)) (any-no (bad_at s) (up_to n) i e (up_of n i p)));
}

-- and none of them is bad
pub good-items : (s : List ℕ) → is_bad s ≡ false → list_any (bad_at s) (up_to (length s / item_size)) ≡ false
unfolding is_bad
good-items s e =
    let a = ltb (max_items * item_size) (length s) in
    let b = not (eqb (length s % item_size) 0) in
    let r = list_any (bad_at s) (up_to (length s / item_size)) in
    neither_right b r (neither_right a (b || r) e)

-- they fill the bytes
pub long-items : (s : List ℕ) → is_bad s ≡ false → length s ≡ length s / item_size * item_size
unfolding is_bad
long-items s e =
    let a = ltb (max_items * item_size) (length s) in
    let b = eqb (length s % item_size) 0 in
    let r = list_any (bad_at s) (up_to (length s / item_size)) in
    let z = eqb-true (length s % item_size) 0 (not-false-t b (neither_left (not b) r (neither_right a (not b || r) e))) in
    omega arith

-- ---- where it is known how many they are

module _ (s : List ℕ) (n : ℕ) (long : length s ≡ n * item_size) where
  count-is : length s / item_size ≡ n
  count-is = omega arith

  pub good_of : is_bad s ≡ false → list_any (bad_at s) (up_to n) ≡ false
  good_of e = ap (λ (k : ℕ). list_any (bad_at s) (up_to k)) (sym count-is) ∙ good-items s e

  pub whole-items : is_bad s ≡ false → Whole s n
  whole-items e = let f = few-items s e in whole_of s n (omega arith) long (good_of e)

  pub outcome-is : outcome s ≡ decide (item_relations s) (up_to n)
  outcome-is = ap (λ (k : ℕ). decide (item_relations s) (up_to k)) count-is
