-- No claim rests on this file: it says in which order two identities stand, as std's comparisons have it, and shows what they ask of it. A trait's impl cites
-- what stands in specs/ alone, so the laws stand here, each by the cases of two tests.
use Rattle.std.proofs.Common.{◌≡◌, ℕ, Bool, true, false, not, ◌&&◌, List, refl, sym, ap, ◌∙◌}
use Rattle.std.specs.Prelude.{cond, Some}
use mathlib.Core.Bool.{false≢true}
use Rattle.std.specs.declared.cmp.Ordering.{Ordering}
use Rattle.std.specs.declared.cmp.Ordering.TheVariants.{Less, Equal, Greater}
use Rattle.std.specs.Cmp.{IsPartialEquivalence, IsEquivalence, IsPartialOrder, IsTotalOrder, partial_equiv_from_equiv, partial_order_from_agreeing_total}
use Rattle.std.specs.Ordering.{is_lt, is_eq, ordering_reverse}
use Rattle.octets.specs.Order.{is_before, same}
use Rattle.octets.proofs.Comparison.{before-trans, before-asym, same_refl, same-eq}

-- by whether the first comes before the second, and whether the second comes before the first
abbrev order : Bool → Bool → Ordering
order x y = cond x Less (cond y Greater Equal)

abbrev pub byte_order : List ℕ → List ℕ → Ordering
byte_order a b = order (is_before a b) (is_before b a)

-- ---- the laws, over two tests

neither-back : (x y : Bool) → (not x && not y) ≡ (not y && not x)
neither-back true true = refl
neither-back true false = refl
neither-back false true = refl
neither-back false false = refl

lower : (x y : Bool) → is_lt (order x y) ≡ x
lower true y = refl
lower false true = refl
lower false false = refl

tie : (x y : Bool) → (not x && not y) ≡ is_eq (order x y)
tie true y = refl
tie false true = refl
tie false false = refl

turned : (x y : Bool) → (x ≡ true → y ≡ false) → order x y ≡ ordering_reverse (order y x)
turned true true h = absurd (false≢true (sym (h refl)))
turned true false h = refl
turned false true h = refl
turned false false h = refl

-- ---- of two strings

same-back : (a b : List ℕ) → same a b ≡ same b a
unfolding same
same-back a b = neither-back (is_before a b) (is_before b a)

pub same-equiv : IsEquivalence same
same-equiv = record { refl = same_refl; symm = same-back; congr = λ x y z e. ap (λ (w : List ℕ). same w z) (same-eq x y e) }

pub same-per : IsPartialEquivalence same
same-per = partial_equiv_from_equiv same-equiv

-- what `==` answers
pub same-tie : (a b : List ℕ) → same a b ≡ is_eq (byte_order a b)
unfolding same
same-tie a b = tie (is_before a b) (is_before b a)

-- what `<` answers
pub lower-is : (a b : List ℕ) → is_lt (byte_order a b) ≡ is_before a b
lower-is a b = lower (is_before a b) (is_before b a)

less : (a b : List ℕ) → byte_order a b ≡ Less → is_before a b ≡ true
less a b e = sym (lower-is a b) ∙ ap is_lt e

of-less : (a b : List ℕ) → is_before a b ≡ true → byte_order a b ≡ Less
of-less a b h = ap (λ (x : Bool). order x (is_before b a)) h

tied : (a b : List ℕ) → byte_order a b ≡ Equal → a ≡ b
tied a b e = same-eq a b (same-tie a b ∙ ap is_eq e)

pub byte-order-total : IsTotalOrder byte_order
byte-order-total = record {
  antisymm = λ a b. turned (is_before a b) (is_before b a) (before-asym a b);
  trans = λ x y z p q. of-less x z (before-trans x y z (less x y p) (less y z q));
  congr = λ x y z e. ap (λ (w : List ℕ). byte_order w z) (tied x y e);
}

pub byte-order-partial : IsPartialOrder same (λ a b. Some (byte_order a b))
byte-order-partial = partial_order_from_agreeing_total byte_order byte-order-total (λ a b. refl) same-tie
