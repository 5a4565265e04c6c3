use mathlib.Core.Path.{refl}
use lib.Ieee.{of_int, of_bits}
use Rattle.geometry.specs.Geodesy.{enu_basis}
use Rattle.geometry.proofs.geodesy.enu_basis.Goals as goal

pub returns : goal.returns
unfolding enu_basis of_int of_bits
returns c = refl
