-- No claim rests on these definitions: they say what becomes of a transmission that a further fix is tied to, what is told of that fix, and which transmission stays as it is.
use Rattle.std.specs.Prelude.{◌≡◌, cond, Option, Some, None}
use Rattle.std.specs.List.{list_any}
use Rattle.fixes.specs.Fix.{Fix}
use Rattle.track_transmission.specs.Held.{HeldTransmission, held_in, is_of}
use Rattle.track_normalize.specs.Normal.{normalized}
use Rattle.track_normalize.specs.Joining.{with_fix, sign_in}
use Rattle.track_normalize.specs.Did.{joined_as}
use Rattle.track_normalize.specs.declared.Joined.{Joined}

-- its identity is held and gains signers, or all is decided again
abbrev pub taken_in : Fix → HeldTransmission → HeldTransmission
taken_in f t = cond (list_any (is_of f) (held_in t)) (sign_in f t) (with_fix f t)

-- nothing is told of a fix whose identity was held
abbrev pub told_of : Fix → HeldTransmission → Option Joined
told_of f t = cond (list_any (is_of f) (held_in t)) None (Some (joined_as f t (with_fix f t)))

-- its fixes decided again, it is as it was
abbrev pub Settled : HeldTransmission → Type 0
Settled t = normalized (held_in t) ≡ t
