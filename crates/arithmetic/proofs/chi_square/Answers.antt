use mathlib.Core.Path.{sym, ap}
use Rattle.arithmetic.specs.Agree.{chi_square_in}
use Rattle.arithmetic.proofs.chi_square.Goals as goal

pub returns-in-Inside : goal.returns-in-Inside
unfolding chi_square_in
returns-in-Inside c = sym (ap chi_square_in c.in-Inside.is)

pub returns-in-Outside : goal.returns-in-Outside
unfolding chi_square_in
returns-in-Outside c = sym (ap chi_square_in c.in-Outside.is)

pub returns-in-Unmeasurable : goal.returns-in-Unmeasurable
unfolding chi_square_in
returns-in-Unmeasurable c = sym (ap chi_square_in c.in-Unmeasurable.is)
