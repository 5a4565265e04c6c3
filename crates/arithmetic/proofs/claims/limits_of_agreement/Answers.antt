use Rattle.arithmetic.proofs.Positions.{position-1, position-2}
use Rattle.arithmetic.proofs.claims.limits_of_agreement.Goals as goal

pub returns-clause-limit : goal.returns-clause-limit
returns-clause-limit c = position-1

pub returns-clause-zero_covariance : goal.returns-clause-zero_covariance
returns-clause-zero_covariance c = position-2
