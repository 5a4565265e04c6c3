use mir.Syntax.{w32}
use mir.Facts.{to_z-of_z}
use mathlib.Core.Path.{◌≡◌}
use Prim.Native.Nat.{◌<◌, ◌^◌}
use lib.IntN.{ℤ}
use lib.Signed.{mag}
use mir.Val.{to_z, of_z}
use Rattle.arithmetic.specs.Agree.{geodetic_of}
use Rattle.arithmetic.proofs.stages.geodetic.Goals as goal

back : (z : ℤ) → mag z < 2 ^ 31 → to_z w32 (of_z w32 z) ≡ z
back z h = to_z-of_z {w = w32} (record { sfits = h })

pub returns : goal.returns
unfolding geodetic_of
returns c =
    let a = c.args.claim in
    let t = c.struct_told-1.given in
    rw (
      c.metres-height_m.ensures,
      c.sincos-lon.ensures,
      c.sincos-lat.ensures,
      back a.lat t.0.1,
      back a.lon t.1.0.1,
    )
