use mir.Facts.{to_z-of_z}
use mir.Syntax.{w32}
use mir.Val.{to_z, of_z}
use Rattle.std.proofs.Common.{◌≡◌, ◌<◌, ◌^◌, refl}
use lib.IntN.{ℤ}
use lib.Signed.{mag}
use Rattle.decision_items.specs.Claimed.{claim_of}
use Rattle.decision_items.proofs.claimed.claimed.Goals as goal

-- what the machine reads back of a signed number that fits
back : (z : ℤ) → mag z < 2 ^ 31 → to_z w32 (of_z w32 z) ≡ z
back z h = to_z-of_z {w = w32} (record { sfits = h })

pub returns : goal.returns
unfolding claim_of
returns c =
    rw (back c.longitude.result c.longitude.type_inv, back c.latitude.result c.latitude.type_inv, c.covariance.ensures, c.height.ensures, c.longitude.ensures, c.latitude.ensures) refl
