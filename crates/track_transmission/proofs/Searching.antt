-- A search through a list from its front.
use Prim.Native.Nat.{ℕ, zero, suc, ◌+◌, ◌≤◌, ◌<◌}
use mathlib.Core.Path.{◌≡◌, refl}
use mathlib.Core.Bool.{Bool, true, false}
use mathlib.Core.List.{List, [], ◌∷◌}
use native.Mathlib.Omega.{arith}
use native.Mathlib.Numerals.{add-one}
use lib.ListN.{length, get_or, drop}
use lib.Seq.{drop-cons}
use Rattle.std.specs.List.{list_any}

module _ {A : Type 0} (test : A → Bool) (l : List A) (k : ℕ) (d : A) where
  pub any_here : k < length l → test (get_or l k d) ≡ true → list_any test (drop k l) ≡ true
  any_here h e = rw (drop-cons l k d h, e) refl

  pub any-on : k < length l → test (get_or l k d) ≡ false → list_any test (drop k l) ≡ list_any test (drop (k + 1) l)
  any-on h e = rw (drop-cons l k d h, e, add-one k) refl

pub any-over : {A : Type 0} (test : A → Bool) (l : List A) (k : ℕ) → length l ≤ k → list_any test (drop k l) ≡ false
any-over test [] zero h = refl
any-over test [] (suc k) h = refl
any-over test (x ∷ l) zero h = absurd (omega arith)
any-over test (x ∷ l) (suc k) h = any-over test l k (omega arith)
