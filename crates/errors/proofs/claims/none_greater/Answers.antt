use Rattle.errors.proofs.Numbered.{none-greater}
use Rattle.errors.proofs.claims.none_greater.Goals as goal

pub returns : goal.returns
returns c = none-greater
