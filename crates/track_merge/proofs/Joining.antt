-- A fix that is tied to one transmission: the bytes that are left are those of what is left.
use Prim.Native.Nat.{ℕ, ◌<◌}
use mathlib.Core.Path.{◌≡◌, refl, ap, ◌∙◌}
use mathlib.Core.Bool.{true, false}
use mathlib.Core.List.{List, [], ◌∷◌, ◌++◌, map}
use lib.ListN.{length, get_or, set}
use Rattle.octets.specs.Bytes.{Bytes}
use Rattle.std.specs.Prelude.{Option, Some, None}
use Rattle.std.specs.List.{list_any}
use Rattle.lists.proofs.Bools.{by, or}
use Rattle.fixes.specs.Fix.{Fix}
use Rattle.track_transmission.specs.Held.{HeldTransmission, fix_of, held_in, is_of, tied_to}
use Rattle.track_transmission.specs.Bytes.{transmission_in, transmission_bytes}
use Rattle.track_transmission.specs.Parts.{Sound, Steady}
use Rattle.track_normalize.specs.declared.Joined.{Joined}
use Rattle.track_normalize.specs.Joining.{with_fix, entered, sign_in}
use Rattle.track_normalize.specs.Taking.{taken_in, told_of}
use Rattle.track_normalize.specs.Did.{joined_as}
use Rattle.track_normalize.proofs.Validity.{Holdable, with-holdable, normalized-read, normalized-steady}
use Rattle.track_arrange.specs.Arranged.{arranged}
use Rattle.track_merge.specs.declared.Merged.TheVariants.{Duplicate}
use Rattle.track_merge.specs.Merged.{in_place, answer_of, opened, joined, merged_into, merged}
use Rattle.track_merge.specs.Searching.{only}
use Rattle.track_merge.proofs.Counting.{Alone, alone-at, none-alone}

-- ---- what is told of it

module _ (f : Fix) (t : HeldTransmission) where
  pub told-none : ◌≡◌ {A = Option Joined} None (told_of f t) → list_any (is_of f) (held_in t) ≡ true
  told-none e = by (list_any (is_of f) (held_in t)) (λ h. h) (λ h. absurd (let d = rw h at e in cc))

  pub told-some : (j : Joined) → Some j ≡ told_of f t → (list_any (is_of f) (held_in t) ≡ false) × (j ≡ joined_as f t (with_fix f t))
  told-some j e = by (list_any (is_of f) (held_in t)) (λ h. absurd (let d = rw h at e in cc)) (λ h. (h, let d = rw h at e in cc))

  pub told-held : list_any (is_of f) (held_in t) ≡ true → ◌≡◌ {A = Option Joined} None (told_of f t)
  told-held h = rw h refl

  pub taken-held : list_any (is_of f) (held_in t) ≡ true → taken_in f t ≡ sign_in f t
  taken-held h = rw h refl

  pub taken-new : list_any (is_of f) (held_in t) ≡ false → taken_in f t ≡ with_fix f t
  taken-new h = rw h refl

-- all is decided again
pub with-steady : (f : Fix) (b : List ℕ) → Holdable f → Bytes b → Sound b → Steady (transmission_bytes (with_fix f (transmission_in b)))
with-steady f b h y s = normalized-steady ((transmission_in b).fixes ++ (f ∷ map fix_of (transmission_in b).refused)) (with-holdable b y s f h)

pub with-read : (f : Fix) (b : List ℕ) → Holdable f → Bytes b → Sound b → transmission_in (transmission_bytes (with_fix f (transmission_in b))) ≡ with_fix f (transmission_in b)
with-read f b h y s = normalized-read ((transmission_in b).fixes ++ (f ∷ map fix_of (transmission_in b).refused)) (with-holdable b y s f h)

-- ---- which transmissions it is tied to

module _ (f : Fix) (ts : List HeldTransmission) where
  -- where none is there
  abbrev nothing : HeldTransmission
  nothing = transmission_in []

  -- none or several
  pub merged-none : only (tied_to f) ts ≡ None → merged f ts ≡ opened f ts
  unfolding merged
  merged-none e = or (none-alone (tied_to f) ts nothing e) (λ p. ap (merged_into f ts) p) (λ p. ap (merged_into f ts) p.are)

  -- transmission i alone
  module _ (i : ℕ) (e : only (tied_to f) ts ≡ Some i) where
    alone : Alone (tied_to f) ts i nothing
    alone = alone-at (tied_to f) ts i nothing e

    abbrev t : HeldTransmission
    t = get_or ts i nothing

    pub there : i < length ts
    there = alone.there

    merged-one : merged f ts ≡ joined f t ts
    unfolding merged
    merged-one = ap (merged_into f ts) alone.passes

    -- u in its place
    placed : (u : HeldTransmission) → in_place f u ts ≡ set ts i u
    placed = alone.replaced

    -- f is held: it gains a signer
    pub duplicate : list_any (is_of f) (held_in t) ≡ true → merged f ts ≡ record { answer = Duplicate; entered = 0; left = set ts i (sign_in f t) }
    unfolding joined
    duplicate a = merged-one ∙ rw a (ap (λ (l : List HeldTransmission). record { answer = Duplicate; entered = 0; left = l }) (placed (sign_in f t)))

    -- f is not held: all is decided again
    pub decided : list_any (is_of f) (held_in t) ≡ false → merged f ts ≡ record { answer = answer_of f t (with_fix f t); entered = entered t (with_fix f t); left = arranged (set ts i (with_fix f t)) }
    unfolding joined
    decided a = merged-one ∙ rw a (ap (λ (l : List HeldTransmission). record { answer = answer_of f t (with_fix f t); entered = entered t (with_fix f t); left = arranged l }) (placed (with_fix f t)))
