use mathlib.Core.Path.{sym, ap}
use Rattle.geometry.specs.Angles.{turn_of}
use Rattle.geometry.proofs.angles.turned.Goals as goal

pub returns-in-One : goal.returns-in-One
returns-in-One c = ap (λ q. turn_of q c.args.s c.args.c) (sym c.in-One.is)
