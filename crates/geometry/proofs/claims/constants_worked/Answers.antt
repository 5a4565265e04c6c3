use Rattle.geometry.proofs.Constants.{nearest-pi, constant-bits}
use Rattle.geometry.proofs.claims.constants_worked.Goals as goal

pub returns-clause-nearest : goal.returns-clause-nearest
returns-clause-nearest c = nearest-pi

pub returns-clause-bits : goal.returns-clause-bits
returns-clause-bits c = constant-bits
