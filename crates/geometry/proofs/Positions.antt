-- Three angles at edges of the ranges.
use mathlib.Core.Path.{refl}
use Rattle.geometry.specs.Claims.{Position4}

pub position-4 : Position4
position-4 = (refl, refl, refl)
