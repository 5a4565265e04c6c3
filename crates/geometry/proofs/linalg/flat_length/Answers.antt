use mathlib.Core.Path.{refl}
use Rattle.geometry.specs.Factors.{flat_length}
use Rattle.geometry.proofs.linalg.flat_length.Goals as goal

pub returns : goal.returns
unfolding flat_length
returns c = refl
