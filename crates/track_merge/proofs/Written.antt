-- A fix that is a value can be held; and which fix is kept of a transmission.
use Prim.Native.Nat.{ℕ, ◌^◌, ◌<◌}
use mathlib.Core.Path.{◌≡◌, refl, sym, ap, ◌∙◌, subst}
use mathlib.Core.Bool.{true, false}
use Rattle.std.specs.List.{list_any}
use mathlib.Core.List.{List, [], ◌∷◌}
use lib.ListN.{length, get_or}
use Rattle.std.specs.Prelude.{Some, None, slice_get}
use Rattle.lists.proofs.Lists.{any-of}
use Rattle.fixes.proofs.Indexed.{at_in}
use Rattle.track_normalize.specs.Joining.{leads}
use Rattle.track_arrange.specs.Leads.{kept_of}
use Rattle.track_merge.specs.Merged.{keeps}
use Rattle.record.specs.Layout.{record_size}
use Rattle.record.specs.Formed.{well_formed}
use Rattle.decision_items.specs.Layout.{hash_size}
use Rattle.fixes.specs.Fix.{Fix}
use Rattle.track_transmission.specs.Held.{HeldTransmission, is_of}
use Rattle.fixes.specs.Made.{fix_from}
use Rattle.track_normalize.proofs.Validity.{Holdable}

-- a fix that is a value
pub holdable-of : (r inputs : List ℕ) (signers : ℕ) (f : Fix) → well_formed r ≡ true → length r ≡ record_size → length inputs ≡ hash_size → signers < 2 ^ 32 → fix_from r inputs signers ≡ f → Holdable f
holdable-of r inputs signers f w n m s e = subst Holdable e (record { valid = record { record-size = n; inputs-size = m; signed = s; identified = refl }; form = w })

-- ---- the fix that is kept

pub kept-is : (f g : Fix) (t : HeldTransmission) → kept_of t ≡ Some g → keeps f t ≡ is_of f g
kept-is f g t e = go t.fixes e
  where
    go : (fs : List Fix) → slice_get fs 0 ≡ Some g → leads f fs ≡ is_of f g
    go [] q = absurd (cc)
    go (h ∷ fs) q = let d : h ≡ g = cc in ap (is_of f) d

pub none-kept : (f : Fix) (t : HeldTransmission) → kept_of t ≡ None → keeps f t ≡ false
none-kept f t e = go t.fixes e
  where
    go : (fs : List Fix) → slice_get fs 0 ≡ None → leads f fs ≡ false
    go [] q = refl
    go (h ∷ fs) q = absurd (cc)

pub one-keeps : (f g : Fix) (ts : List HeldTransmission) (t : HeldTransmission) (i : ℕ) → i < length ts → t ≡ get_or ts i t → kept_of t ≡ Some g → is_of f g ≡ true
    → list_any (keeps f) ts ≡ true
one-keeps f g ts t i h e k q = any-of (keeps f) ts (get_or ts i t) (at_in t ts i h) (ap (keeps f) (sym e) ∙ kept-is f g t k ∙ q)
