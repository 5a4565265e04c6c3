use mathlib.Core.Path.{refl}
use lib.Ieee.{of_int, of_bits, div}
use Rattle.geometry.specs.Angles.{cosine_series, coefficient, factorial}
use Rattle.geometry.proofs.angles.cosine_series.Goals as goal

pub returns : goal.returns
unfolding cosine_series coefficient factorial of_int of_bits div
returns c = refl
