use mathlib.Core.Path.{refl}
use Rattle.geometry.specs.Factors.{full_length}
use Rattle.geometry.proofs.linalg.full_length.Goals as goal

pub returns : goal.returns
unfolding full_length
returns c = refl
