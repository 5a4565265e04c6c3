use mir.Facts.{to_z-of_z}
use lib.Ieee.{of_bits, round}
use Rattle.geometry.specs.Numbers.{from_decimal}
use Rattle.geometry.specs.Angles.{radians_of, degree}
use Rattle.geometry.proofs.angles.radians.Goals as goal

pub returns : goal.returns
unfolding radians_of from_decimal degree of_bits round
returns c = rw (to_z-of_z c.ranges.r)
