use Rattle.arithmetic.proofs.Outcomes.{unmeasurable-exactly-when, else-the-sum, finite-numbers, inside-exactly-when, outside-exactly-when}
use Rattle.arithmetic.proofs.claims.agreement_is_by_its_sum.Goals as goal

pub returns-clause-unmeasurable : goal.returns-clause-unmeasurable
returns-clause-unmeasurable c = unmeasurable-exactly-when

pub returns-clause-sum : goal.returns-clause-sum
returns-clause-sum c = else-the-sum

pub returns-clause-finite : goal.returns-clause-finite
returns-clause-finite c = finite-numbers

pub returns-clause-inside : goal.returns-clause-inside
returns-clause-inside c = inside-exactly-when

pub returns-clause-outside : goal.returns-clause-outside
returns-clause-outside c = outside-exactly-when
