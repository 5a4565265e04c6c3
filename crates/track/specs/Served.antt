-- The fix that a track serves (docs/REFERENCE.md, 'Track and listing'; the Rust's `current`): the first fix of the last transmission.
use Rattle.std.specs.Prelude.{List, take}
use mathlib.Core.List.{flat_map}
use Rattle.lists.specs.Lists.{last_of}
use Rattle.fixes.specs.Fix.{Fix}
use Rattle.track_transmission.specs.Held.{HeldTransmission}
use Rattle.track_memory.specs.Track.{Track}

-- the fix kept of a transmission, if it has one
abbrev pub kept_of : HeldTransmission → List Fix
kept_of t = take 1 t.fixes

-- that of the last transmission, if there is one
abbrev pub served : Track → List Fix
served s = flat_map kept_of (last_of 1 s.transmissions)
