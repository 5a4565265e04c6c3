-- A list and its indices; fixes by their index in a list.
use Prim.Native.Nat.{ℕ, zero, suc, ◌<◌}
use mathlib.Core.Path.{◌≡◌, refl, sym}
use mathlib.Core.List.Memᴰ
use mathlib.Core.List.{List, [], ◌∷◌, Memᴰ}
use native.Mathlib.Omega.{arith}
use lib.ListN.{length, get_or}
use Rattle.lists.proofs.Bools.{or}

module _ {A : Type 0} (d : A) where
  pub at_in : (l : List A) (i : ℕ) → i < length l → Memᴰ (get_or l i d) l
  at_in [] i h = absurd (omega arith)
  at_in (x ∷ l) zero h = Memᴰ.head refl
  at_in (x ∷ l) (suc i) h = Memᴰ.tail (at_in l i (omega arith))

  pub in-at : (l : List A) (x : A) → Memᴰ x l → (i : ℕ) × (i < length l) × (get_or l i d ≡ x)
  in-at [] x m = absurd (Memᴰ.not-nil m)
  in-at (y ∷ l) x m =
      or (Memᴰ.cases_cons m)
      (λ e. (0, omega arith, sym e))
      (λ k. let r = in-at l x k in let b = r.1 in (suc r.0, omega arith, r.2))
