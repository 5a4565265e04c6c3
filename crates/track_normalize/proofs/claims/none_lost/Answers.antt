use Rattle.track_normalize.proofs.Given.{one-of-each, none-lost}
use Rattle.track_normalize.proofs.claims.none_lost.Goals as goal

pub returns-clause-one_of_each : goal.returns-clause-one_of_each
returns-clause-one_of_each c = one-of-each

pub returns-clause-none_lost : goal.returns-clause-none_lost
returns-clause-none_lost c = none-lost
