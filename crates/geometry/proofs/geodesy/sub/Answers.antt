use mathlib.Core.Path.{refl}
use Rattle.geometry.specs.Geodesy.{sub_of}
use Rattle.geometry.proofs.geodesy.sub.Goals as goal

pub returns : goal.returns
unfolding sub_of
returns c = refl
