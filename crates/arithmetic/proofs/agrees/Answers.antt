use mathlib.Core.Path.{sym, ap}
use Rattle.arithmetic.specs.Agree.{agrees_of}
use Rattle.arithmetic.proofs.agrees.Goals as goal

pub returns-in-Inside : goal.returns-in-Inside
unfolding agrees_of
returns-in-Inside c = sym (ap agrees_of c.in-Inside.is)

pub returns-in-Outside : goal.returns-in-Outside
unfolding agrees_of
returns-in-Outside c = sym (ap agrees_of c.in-Outside.is)

pub returns-in-Unmeasurable : goal.returns-in-Unmeasurable
unfolding agrees_of
returns-in-Unmeasurable c = sym (ap agrees_of c.in-Unmeasurable.is)
