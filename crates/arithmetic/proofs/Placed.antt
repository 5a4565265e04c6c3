-- A fix is placed by the formula for the sine and the cosine: geometry's law of the five ranges, at its two angles.
use Rattle.geometry.proofs.Quadrants.{ranges-are-the-formula}
use Rattle.arithmetic.specs.Agree.{geodetic_of}
use Rattle.arithmetic.specs.Claims.{PlacedByFormula}

pub placed-by-formula : PlacedByFormula
unfolding geodetic_of
placed-by-formula claim lat lon =
    let law = ranges-are-the-formula in
    (law.sincos claim.lat (law.five claim.lat lat), law.sincos claim.lon (law.five claim.lon lon))
