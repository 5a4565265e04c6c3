use Rattle.floats.proofs.Worked.{roots-worked}
use Rattle.floats.proofs.claims.roots_worked.Goals as goal

pub returns : goal.returns
returns c = roots-worked
