-- What is claimed of the order of a track's transmissions (docs/REFERENCE.md, 'Track and listing'), whatever transmissions are given. proofs/Claimed has a
-- theorem of each of these types.
use Rattle.std.specs.Prelude.{◌≤◌, min, ◌≡◌, Bool, true, false, not, ◌&&◌, length}
use mathlib.Core.List.{List, [], ◌∷◌, ◌++◌, Memᴰ, Permᴰ}
use Rattle.std.specs.List.{filter}
use Rattle.track_transmission.specs.Held.{HeldTransmission}
use Rattle.track_arrange.specs.Arranged.{max_transmissions, has_fix, older_than, arranged}

-- each has a fix, and no later one is older than an earlier one
pub data InOrder : List HeldTransmission → Type 0 where
  none : InOrder []
  next : {t : HeldTransmission} {ts : List HeldTransmission}
      → has_fix t ≡ true → ((u : HeldTransmission) → Memᴰ u ts → older_than u t ≡ false) → InOrder ts → InOrder (t ∷ ts)

abbrev pub ArrangedInOrder : Type 0
ArrangedInOrder = (ts : List HeldTransmission) → InOrder (arranged ts)

-- neither of two is older than the other: time and identity of the fix kept are the same
abbrev pub alike : HeldTransmission → HeldTransmission → Bool
alike t u = not (older_than t u) && not (older_than u t)

-- those that are forgotten of the transmissions ts
pub record Forgotten (ts : List HeldTransmission) : Type 0 where
  pub these : List HeldTransmission
  -- they and those left are the transmissions that have a fix, in another order
  pub all_there : Permᴰ (these ++ arranged ts) (filter has_fix ts)
  -- none of them is younger than one that is left
  pub no_younger : (t u : HeldTransmission) → Memᴰ t these → Memᴰ u (arranged ts) → older_than u t ≡ false
  -- those that are alike have the order they had, and the first of them are forgotten first
  pub stable : (t : HeldTransmission) → filter (alike t) (these ++ arranged ts) ≡ filter (alike t) (filter has_fix ts)

-- the latest eight are left, or all where no more have a fix
abbrev pub LatestLeft : Type 0
LatestLeft = (ts : List HeldTransmission) → Forgotten ts × (length (arranged ts) ≡ min max_transmissions (length (filter has_fix ts)))

-- where at most eight have a fix, none of those is forgotten
abbrev pub FewAllLeft : Type 0
FewAllLeft = (ts : List HeldTransmission) → length (filter has_fix ts) ≤ max_transmissions → Permᴰ (arranged ts) (filter has_fix ts)

-- what is in order stays as it is
abbrev pub OrderStays : Type 0
OrderStays = (ts : List HeldTransmission) → InOrder ts → length ts ≤ max_transmissions → arranged ts ≡ ts
