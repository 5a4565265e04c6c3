use Rattle.models.proofs.Waiting.{waits_exactly_where}
use Rattle.models.proofs.claims.waits_exactly_where.Goals as goal

pub returns : goal.returns
returns c = waits_exactly_where
