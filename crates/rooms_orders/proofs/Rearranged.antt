-- What a shuffle leaves is a rearrangement, and it is the same shuffle of what the elements say.
use Prim.Native.Nat.{ℕ, zero, suc, ◌<◌}
use mathlib.Core.Path.{◌≡◌, refl, sym, ap, ap₂, subst, ◌∙◌}
use mathlib.Core.List.{List, [], ◌∷◌, map, Permᴰ}
use mathlib.Core.List.Permᴰ
use native.Mathlib.Omega.{arith}
use lib.ListN.{length, get_or, set, get_or-map}
use Rattle.std.proofs.lemmas.List.Edits.{length-swap}
use Rattle.std.specs.List.{swap}
use Rattle.std.specs.List.Sorted.{apply_swaps, SwapsInRange, IsPermutation}
use Rattle.std.proofs.Common.{◌+◌, ◌-◌, ◌^◌, nat_lt}
use Rattle.std.proofs.lemmas.List.{map-set, length-map}
use Rattle.lists.proofs.Bools.{by}
use Rattle.rand_core.specs.Stream.{Stream}
use Rattle.rand.specs.Uniform.{usize_single}
use Rattle.rand.specs.Shuffle.{Chooser, chooser_at, chooser_next, narrow_swaps, wide_swaps, shuffled}

module _ {X : Type 0} where
  -- an element against the one at a place
  out : (l : List X) (j : ℕ) (x d : X) → j < length l → Permᴰ (x ∷ l) (get_or l j d ∷ set l j x)
  out [] j x d h = absurd (none h)
    where
      none : j < 0 → ⊥
      none h = omega arith
  out (c ∷ l) zero x d h = Permᴰ.swap refl refl
  out (c ∷ l) (suc j) x d h =
      Permᴰ.trans (Permᴰ.swap refl refl) (Permᴰ.trans (Permᴰ.cons refl (out l j x d (omega arith))) (Permᴰ.swap refl refl))

  exchanged : (l : List X) (i j : ℕ) (d : X) → i < length l → j < length l → Permᴰ l (set (set l i (get_or l j d)) j (get_or l i d))
  exchanged [] i j d h k = Permᴰ.nil
  exchanged (c ∷ l) zero zero d h k = Permᴰ.refl (c ∷ l)
  exchanged (c ∷ l) zero (suc j) d h k = out l j c d (omega arith)
  exchanged (c ∷ l) (suc i) zero d h k = out l i c d (omega arith)
  exchanged (c ∷ l) (suc i) (suc j) d h k = Permᴰ.cons refl (exchanged l i j d (omega arith) (omega arith))

  swapped : (l : List X) (i j : ℕ) → i < length l → j < length l → Permᴰ l (swap l i j)
  swapped [] i j h k = Permᴰ.nil
  swapped (d ∷ l) i j h k = exchanged (d ∷ l) i j d h k

  moved : (l : List X) (ps : List (ℕ × ℕ)) → SwapsInRange (length l) ps → Permᴰ l (apply_swaps l ps) × (length (apply_swaps l ps) ≡ length l)
  moved l [] h = (Permᴰ.refl l, refl)
  moved l (p ∷ ps) h =
      let r = moved l ps h.2 in
      let m = apply_swaps l ps in
      let i : p.0 < length m = subst (λ (n : ℕ). p.0 < n) (sym r.1) h.0 in
      let j : p.1 < length m = subst (λ (n : ℕ). p.1 < n) (sym r.1) h.1 in
      (Permᴰ.trans r.0 (swapped m p.0 p.1 i j), length-swap m p.0 p.1 ∙ r.1)

  pub rearranged : {l m : List X} → IsPermutation l m → Permᴰ l m
  rearranged {l} p = subst (Permᴰ l) (sym p.is) (moved l p.moves p.below).0

-- ---- of what the elements say

module _ {X Y : Type 0} (f : X → Y) where
  swap-map : (l : List X) (i j : ℕ) → swap (map f l) i j ≡ map f (swap l i j)
  swap-map [] i j = refl
  swap-map (d ∷ l) i j =
      let x = get_or (d ∷ l) j d in
      let y = get_or (d ∷ l) i d in
      ap₂ (λ (u v : Y). set (set (map f (d ∷ l)) i u) j v) (get_or-map f (d ∷ l) j d) (get_or-map f (d ∷ l) i d)
      ∙ ap (λ (m : List Y). set m j (f y)) (sym (map-set f (d ∷ l) i x))
      ∙ sym (map-set f (set (d ∷ l) i x) j y)

  narrow-map : (l : List X) (c : Chooser) (s : Stream) (k : ℕ)
      → narrow_swaps (map f l) c s k ≡ (map f (narrow_swaps l c s k).0, (narrow_swaps l c s k).1, (narrow_swaps l c s k).2)
  unfolding narrow_swaps
  narrow-map l c s zero = refl
  narrow-map l c s (suc k) =
      let p = narrow_swaps l c s k in
      let d = chooser_next p.1 p.2 in
      rw (narrow-map l c s k) (ap (λ (m : List Y). (m, d.1, d.2)) (swap-map p.0 p.1.n d.0))

  wide-map : (l : List X) (start : ℕ) (s : Stream) (k : ℕ) → wide_swaps (map f l) start s k ≡ (map f (wide_swaps l start s k).0, (wide_swaps l start s k).1)
  unfolding wide_swaps
  wide-map l start s zero = refl
  wide-map l start s (suc k) =
      let p = wide_swaps l start s k in
      let d = usize_single 0 (start + k + 1) p.1 in
      rw (wide-map l start s k) (ap (λ (m : List Y). (m, d.1)) (swap-map p.0 (start + k) d.0))

  pub shuffled-map : (l : List X) (start : ℕ) (s : Stream) → shuffled (map f l) start s ≡ (map f (shuffled l start s).0, (shuffled l start s).1)
  shuffled-map l start s =
      rw (length-map l f)
      (by (nat_lt (length l) (2 ^ 32 - 1))
      (λ h. rw h (ap (λ (p : List Y × Chooser × Stream). (p.0, p.2)) (narrow-map l (chooser_at start) s (length l - start))))
      (λ h. rw h (wide-map l start s (length l - start))))
