-- No claim rests on these definitions: they say of which transmissions the code decides none again, and what a transmission of one fix is.
use mathlib.Core.List.{List, [], ◌∷◌, Memᴰ}
use Rattle.fixes.specs.Fix.{Fix}
use Rattle.track_transmission.specs.Held.{HeldTransmission}
use Rattle.track_normalize.specs.Taking.{Settled}

abbrev pub AllSettled : List HeldTransmission → Type 0
AllSettled ts = (t : HeldTransmission) → Memᴰ t ts → Settled t

-- a transmission of one fix, which stands
abbrev pub alone : Fix → HeldTransmission
alone f = record { fixes = f ∷ []; refused = [] }
