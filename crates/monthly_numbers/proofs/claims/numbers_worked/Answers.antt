use Rattle.monthly_numbers.proofs.Worked.{numbers-worked}
use Rattle.monthly_numbers.proofs.claims.numbers_worked.Goals as goal

pub returns : goal.returns
returns c = numbers-worked
