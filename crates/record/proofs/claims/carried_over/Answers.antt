use Rattle.record.proofs.Carried.{carried_over}
use Rattle.record.proofs.claims.carried_over.Goals as goal

pub returns : goal.returns
returns c = carried_over
