use mathlib.Core.Path.{refl}
use Rattle.geometry.specs.Geodesy.{dot_of}
use Rattle.geometry.proofs.geodesy.dot.Goals as goal

pub returns : goal.returns
unfolding dot_of
returns c = refl
