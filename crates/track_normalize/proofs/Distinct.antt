-- Laws of fixes that are gathered, of one identity one: they have different identities, and are no more than were given.
use Prim.Native.Nat.{ℕ, suc, ◌+◌, ◌≤◌}
use mathlib.Core.Path.{◌≡◌, refl, ap}
use mathlib.Core.Bool.{true, false}
use mathlib.Core.List.{List, [], ◌∷◌, ◌++◌, map}
use native.Mathlib.Omega.{arith}
use lib.ListN.{length, length-append}
use Rattle.std.specs.List.{list_any}
use Rattle.lists.proofs.Bools.{by}
use Rattle.fixes.specs.Fix.{Fix}
use Rattle.track_transmission.specs.Held.{is_of}
use Rattle.track_normalize.specs.Normal.{signed_by, sign_first, gather, gather_all}

abbrev identity_of : Fix → List ℕ
identity_of f = f.identity

module _ (f : Fix) where
  -- ---- the first of its identity gains its signers

  -- what does not depend on the signers stays
  pub sign-keeps : {A : Type 0} (h : Fix → A) → ((g : Fix) → h (signed_by f g) ≡ h g) → (ks : List Fix) → map h (sign_first f ks) ≡ map h ks
  unfolding sign_first
  sign-keeps {A} h e [] = refl
  sign-keeps {A} h e (g ∷ ks) =
      by (is_of f g)
      (λ t. rw t (ap (λ (x : A). x ∷ map h ks) (e g)))
      (λ t. rw t (ap (λ (m : List A). h g ∷ m) (sign-keeps h e ks)))

  pub sign-length : (ks : List Fix) → length (sign_first f ks) ≡ length ks
  unfolding sign_first
  sign-length [] = refl
  sign-length (g ∷ ks) = by (is_of f g) (λ t. rw t refl) (λ t. rw t (ap suc (sign-length ks)))

  -- ---- one or the other

  pub gather-held : (ks : List Fix) → list_any (is_of f) ks ≡ true → gather ks f ≡ sign_first f ks
  gather-held ks e = rw e refl

  pub gather-new : (ks : List Fix) → list_any (is_of f) ks ≡ false → gather ks f ≡ ks ++ (f ∷ [])
  gather-new ks e = rw e refl

  pub gather-few : (ks : List Fix) → length (gather ks f) ≤ length ks + 1
  gather-few ks =
      by (list_any (is_of f) ks)
      (λ t. rw t (let e = sign-length ks in omega arith))
      (λ t. rw t (let e = length-append ks (f ∷ []) in omega arith))

-- ---- all of them

pub all-few : (ks fs : List Fix) → length (gather_all ks fs) ≤ length ks + length fs
unfolding gather_all
all-few ks [] = omega arith
all-few ks (f ∷ fs) = let r = all-few (gather ks f) fs in let g = gather-few f ks in omega arith

pub all_append : (ks fs gs : List Fix) → gather_all ks (fs ++ gs) ≡ gather_all (gather_all ks fs) gs
unfolding gather_all
all_append ks [] gs = refl
all_append ks (f ∷ fs) gs = all_append (gather ks f) fs gs
