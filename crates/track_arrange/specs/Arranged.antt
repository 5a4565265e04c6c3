-- The order of a track's transmissions (docs/REFERENCE.md, 'Track and listing'; the Rust's `arrange`): those that have a fix, the oldest first by time and then
-- identity of the fix kept, equal ones in the order they had; beyond eight the oldest are forgotten.
use Rattle.std.specs.Prelude.{ℕ, Bool, true, false, List, [], ◌∷◌}
use Rattle.std.specs.List.{filter}
use Rattle.lists.specs.Lists.{sort, last_of}
use Rattle.fixes.specs.Ages.{older_first}
use Rattle.track_transmission.specs.Held.{HeldTransmission}

-- the Rust's TRANSMISSIONS
abbrev pub max_transmissions : ℕ
max_transmissions = 8

abbrev pub is_nonempty : {A : Type 0} → List A → Bool
is_nonempty [] = false
is_nonempty (x ∷ l) = true

abbrev pub has_fix : HeldTransmission → Bool
has_fix t = is_nonempty t.fixes

abbrev pub older_than : HeldTransmission → HeldTransmission → Bool
older_than t u = older_first t.fixes u.fixes

unfoldable pub arranged : List HeldTransmission → List HeldTransmission
arranged ts = last_of max_transmissions (sort older_than (filter has_fix ts))
