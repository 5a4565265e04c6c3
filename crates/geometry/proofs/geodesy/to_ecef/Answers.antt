use mathlib.Core.Path.{◌≡◌, refl}
use lib.Ieee.{of_int, of_bits, div, mul, sub, round, binary64}
use Rattle.geometry.specs.Numbers.{from_decimal}
use Rattle.geometry.specs.Geodesy.{to_ecef, eccentricity2, flattening}
use Rattle.geometry.proofs.geodesy.to_ecef.Goals as goal

squared : eccentricity2 ≡ of_bits binary64 4574368116804326640
unfolding eccentricity2 flattening from_decimal round of_int of_bits div mul sub
squared = refl

pub returns : goal.returns
unfolding to_ecef of_int of_bits
returns c = rw (squared, ← c.root-n.ensures)
