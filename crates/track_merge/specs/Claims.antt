-- What is claimed of what a track does with a further fix (docs/REFERENCE.md, 'Track and listing'), whatever transmissions it holds. proofs/Claimed has a
-- theorem of each of these types.
use Rattle.std.specs.Prelude.{◌≤◌, ◌≡◌, false, List, [], ◌∷◌}
use Rattle.std.specs.List.{filter, list_any}
use Rattle.fixes.specs.Fix.{Fix}
use Rattle.track_transmission.specs.Layout.{max_refused}
use Rattle.track_transmission.specs.Held.{HeldTransmission, held_in, is_of, tied_to}
use Rattle.track_normalize.specs.Joining.{with_fix, entered}
use Rattle.track_arrange.specs.Claims.{InOrder}
use Rattle.track_merge.specs.Merged.{merged}

-- ---- how many fixes enter a list of refused

-- f is tied to t alone of the transmissions ts, and its identity is not held in t
pub record Joins (f : Fix) (t : HeldTransmission) (ts : List HeldTransmission) : Type 0 where
  pub alone : filter (tied_to f) ts ≡ t ∷ []
  pub new : list_any (is_of f) (held_in t) ≡ false

-- those refused of t with f that were not refused of t
abbrev pub JoiningEnters : Type 0
JoiningEnters = (f : Fix) (t : HeldTransmission) (ts : List HeldTransmission) → Joins f t ts → (merged f ts).entered ≡ entered t (with_fix f t)

-- a fix that joins none lets none enter: neither one that opens a transmission nor a duplicate
abbrev pub OthersEnterNone : Type 0
OthersEnterNone = (f : Fix) (ts : List HeldTransmission) → ((t : HeldTransmission) → Joins f t ts → ⊥) → (merged f ts).entered ≡ 0

abbrev pub FewEnter : Type 0
FewEnter = (f : Fix) (ts : List HeldTransmission) → (merged f ts).entered ≤ max_refused

-- ---- the order of the transmissions

-- what is in order is left in order
abbrev pub OrderKept : Type 0
OrderKept = (f : Fix) (ts : List HeldTransmission) → InOrder ts → InOrder (merged f ts).left
