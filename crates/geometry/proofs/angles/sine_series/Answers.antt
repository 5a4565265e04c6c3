use mathlib.Core.Path.{refl}
use lib.Ieee.{of_int, of_bits, div}
use Rattle.geometry.specs.Angles.{sine_series, coefficient, factorial}
use Rattle.geometry.proofs.angles.sine_series.Goals as goal

pub returns : goal.returns
unfolding sine_series coefficient factorial of_int of_bits div
returns c = refl
