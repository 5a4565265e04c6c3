use Rattle.arithmetic.specs.Stages.{enu_of}
use Rattle.arithmetic.proofs.stages.enu.Goals as goal

pub returns : goal.returns
unfolding enu_of
returns c = rw (c.dot-z.ensures, c.dot-y.ensures, c.dot-x.ensures)
