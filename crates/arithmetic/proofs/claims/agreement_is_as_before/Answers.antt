use Rattle.arithmetic.proofs.Outcomes.{unmeasurable-was-infinite, numbers-as-before, agrees-as-before, bits-as-before, stored-read-back}
use Rattle.arithmetic.proofs.claims.agreement_is_as_before.Goals as goal

pub returns-clause-infinite : goal.returns-clause-infinite
returns-clause-infinite c = unmeasurable-was-infinite

pub returns-clause-numbers : goal.returns-clause-numbers
returns-clause-numbers c = numbers-as-before

pub returns-clause-agrees : goal.returns-clause-agrees
returns-clause-agrees c = agrees-as-before

pub returns-clause-bits : goal.returns-clause-bits
returns-clause-bits c = bits-as-before

pub returns-clause-stored : goal.returns-clause-stored
returns-clause-stored c = stored-read-back
