use mathlib.Core.Path.{refl, ap}
use Rattle.arithmetic.specs.declared.standing.Measure.{Measure}
use Rattle.arithmetic.specs.Answers.{agreement_number, measure_in}
use Rattle.errors.specs.After.{after}
use Rattle.toastlagoon.specs.Border.{measure_or, agreement_out}
use Rattle.toastlagoon.proofs.put_agreement.Goals as goal

pub returns-in-Inside : goal.returns-in-Inside
unfolding agreement_out agreement_number measure_in measure_or
returns-in-Inside c = rw c.in-Inside.is (ap (λ (m : Measure). after 0 m) c.put_measure.ensures)

pub returns-in-Outside : goal.returns-in-Outside
unfolding agreement_out agreement_number measure_in measure_or
returns-in-Outside c = rw c.in-Outside.is (ap (λ (m : Measure). after 1 m) c.put_measure-in-Outside.ensures)

pub returns-in-Unmeasurable : goal.returns-in-Unmeasurable
unfolding agreement_out agreement_number measure_in measure_or
returns-in-Unmeasurable c = rw c.in-Unmeasurable.is refl
