-- What std's sort leaves is `sort` of what was there, where any two members compare: so code calls the one and definitions say the other.
use Prim.Native.Nat.{ℕ, zero, suc, ◌+◌, ◌<◌}
use mathlib.Core.Path.{◌≡◌, refl, sym, ap, ◌∙◌, subst}
use mathlib.Core.Bool.{Bool, true, false}
use mathlib.Core.List.Permᴰ
use mathlib.Core.List.{List, [], ◌∷◌, Permᴰ}
use native.Mathlib.Omega.{arith}
use lib.ListN.{length, get_or, set}
use Rattle.std.specs.List.Sorted.{IsPermutation, IsSortedBy, SwapsInRange, apply_swaps}
use Rattle.std.specs.List.{swap}
use Rattle.std.proofs.lemmas.List.Edits.{length-swap}
use Rattle.lists.specs.Lists.{insert, sort}
use Rattle.lists.specs.Ordered.{Ascending}
use Rattle.lists.proofs.Orders.{perm-mem}
use Rattle.lists.proofs.Sorting.{Strict, strict-sub, sort-same, ascending-is, ascending-strict}

module _ {A : Type 0} where
  -- the first exchanged with another
  first-swapped : (x d : A) (t : List A) (k : ℕ) → k < length t → Permᴰ (get_or t k d ∷ set t k x) (x ∷ t)
  first-swapped x d [] k h = absurd (omega arith)
  first-swapped x d (y ∷ t) zero h = Permᴰ.swap refl refl
  first-swapped x d (y ∷ t) (suc k) h =
      Permᴰ.trans (Permᴰ.swap refl refl)
      (Permᴰ.trans (Permᴰ.cons refl (first-swapped x d t k (omega (arith, h))))
      (Permᴰ.swap refl refl))

  exchanged : (d : A) (l : List A) (i j : ℕ) → i < length l → j < length l → Permᴰ (set (set l i (get_or l j d)) j (get_or l i d)) l
  exchanged d [] i j h k = absurd (omega arith)
  exchanged d (x ∷ t) zero zero h k = Permᴰ.refl (x ∷ t)
  exchanged d (x ∷ t) zero (suc j) h k = first-swapped x d t j (omega (arith, k))
  exchanged d (x ∷ t) (suc i) zero h k = first-swapped x d t i (omega (arith, h))
  exchanged d (x ∷ t) (suc i) (suc j) h k = Permᴰ.cons refl (exchanged d t i j (omega (arith, h)) (omega (arith, k)))

  swapped : (l : List A) (i j : ℕ) → i < length l → j < length l → Permᴰ (swap l i j) l
  swapped [] i j h k = Permᴰ.nil
  swapped (d ∷ l) i j h k = exchanged d (d ∷ l) i j h k

  moved : (l : List A) (ps : List (ℕ × ℕ)) → SwapsInRange (length l) ps → Permᴰ (apply_swaps l ps) l × (length (apply_swaps l ps) ≡ length l)
  moved l [] h = (Permᴰ.refl l, refl)
  moved l (p ∷ ps) h =
      let w = moved l ps h.2 in
      let m = apply_swaps l ps in
      (Permᴰ.trans (swapped m p.0 p.1 (omega (arith, h.0, w.1)) (omega (arith, h.1, w.1))) w.0, length-swap m p.0 p.1 ∙ w.1)

  -- std's word for a rearrangement, and ours
  pub rearranged : {l m : List A} → IsPermutation l m → Permᴰ m l
  rearranged {l} p = subst (λ (k : List A). Permᴰ k l) (sym p.is) ((moved l p.moves p.below).0)

  module _ (before : A → A → Bool) where
    -- no later member comes before the one that it follows
    tail-sorted : (x : A) (l : List A) → IsSortedBy before (x ∷ l) → IsSortedBy before l
    tail-sorted x l up k d h m =
        let e : suc k + 1 ≡ suc (k + 1) = omega arith in
        subst (λ (n : ℕ). before (get_or (x ∷ l) n d) (get_or l k d) ≡ false) e (up (suc k) d (omega arith) (omega (arith, m)))

    sorted-stays : (l : List A) → IsSortedBy before l → sort before l ≡ l
    unfolding sort insert
    sorted-stays [] up = refl
    sorted-stays (x ∷ []) up = refl
    sorted-stays (x ∷ (y ∷ l)) up =
        ap (insert before x) (sorted-stays (y ∷ l) (tail-sorted x (y ∷ l) up))
        ∙ rw (up 0 x (omega arith) (omega arith)) refl

    -- what std's sort makes of a list is what ascends of its members
    pub sorted_is : ((x : A) → before x x ≡ false) → ((x y z : A) → before x y ≡ true → before y z ≡ true → before x z ≡ true)
        → {l k m : List A} → IsPermutation l k → IsSortedBy before k → Permᴰ m l → Ascending before m → k ≡ m
    sorted_is i t {l} {k} {m} moves up p a =
        let w = rearranged moves in
        let o : Strict before l = strict-sub before (λ x n. perm-mem p n) (ascending-strict before i t a) in
        sym (sorted-stays k up)
        ∙ sort-same before w (strict-sub before (λ x n. perm-mem (Permᴰ.symm w) n) o)
        ∙ sym (ascending-is before o p a)
