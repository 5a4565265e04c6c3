use Rattle.models.proofs.Carried.{identity_carried_over}
use Rattle.models.proofs.claims.identity_carried_over.Goals as goal

pub returns : goal.returns
returns c = identity_carried_over
