use Rattle.monthly_numbers.proofs.Claimed.{adds-up, each-signed-ends}
use Rattle.monthly_numbers.proofs.claims.numbers_add_up.Goals as goal

pub returns-clause-sum : goal.returns-clause-sum
returns-clause-sum c = adds-up

pub returns-clause-signed : goal.returns-clause-signed
returns-clause-signed c = each-signed-ends
