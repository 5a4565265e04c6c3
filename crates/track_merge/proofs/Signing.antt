-- The first of fixes that has an identity gains signers.
use Prim.Native.Nat.{ℕ, zero, suc, ◌<◌}
use mathlib.Core.Path.{◌≡◌, refl, ap}
use mathlib.Core.Bool.{true, false}
use mathlib.Core.List.{List, [], ◌∷◌}
use native.Mathlib.Omega.{arith}
use lib.Bits.{bit_or}
use lib.ListN.{length, get_or, take, set}
use Rattle.std.specs.List.{list_any}
use Rattle.lists.proofs.Bools.{by, clash}
use Rattle.fixes.specs.Fix.{Fix}
use Rattle.fixes.specs.Items.{no_fix}
use Rattle.track_transmission.specs.Held.{RefusedFix, is_of}
use Rattle.track_transmission.proofs.Signing.{no_refused, resigned}
use Rattle.track_normalize.specs.Normal.{signed_by, sign_first}
use Rattle.track_merge.specs.Merged.{sign_refused}

module _ (f : Fix) where
  pub sign-first-at : (l : List Fix) (k : ℕ) → k < length l → list_any (is_of f) (take k l) ≡ false → is_of f (get_or l k no_fix) ≡ true → sign_first f l ≡ set l k (signed_by f (get_or l k no_fix))
  unfolding sign_first
  sign-first-at [] k h a e = absurd (omega arith)
  sign-first-at (g ∷ l) zero h a e = rw e refl
  sign-first-at (g ∷ l) (suc k) h a e =
      by (is_of f g)
      (λ t. clash refl (rw t at a))
      (λ t. rw t (ap (λ (r : List Fix). g ∷ r) (sign-first-at l k (omega arith) (rw t at a) e)))

  pub sign-refused-at : (l : List RefusedFix) (k : ℕ) → k < length l → list_any (λ x. is_of f x.fix) (take k l) ≡ false → is_of f (get_or l k no_refused).fix ≡ true
      → sign_refused f l ≡ set l k (resigned (bit_or (get_or l k no_refused).fix.signers f.signers) (get_or l k no_refused))
  unfolding sign_refused
  sign-refused-at [] k h a e = absurd (omega arith)
  sign-refused-at (x ∷ l) zero h a e = rw e refl
  sign-refused-at (x ∷ l) (suc k) h a e =
      by (is_of f x.fix)
      (λ t. clash refl (rw t at a))
      (λ t. rw t (ap (λ (r : List RefusedFix). x ∷ r) (sign-refused-at l k (omega arith) (rw t at a) e)))
