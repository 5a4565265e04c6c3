use Rattle.arithmetic.specs.Stages.{measured_of, judged_of}
use Rattle.arithmetic.proofs.stages.judged.Goals as goal

pub returns-in_default : goal.returns-in_default
unfolding judged_of measured_of
returns-in_default c = rw c.in_default.is

pub returns : goal.returns
unfolding judged_of
returns c = rw (c.measured.ensures, c.enu-v.ensures, c.sub-d.ensures, c.in-Some.is)
