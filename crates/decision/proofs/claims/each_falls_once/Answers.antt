use Rattle.decision.proofs.Decided.{each_once}
use Rattle.decision.proofs.claims.each_falls_once.Goals as goal

pub returns : goal.returns
returns g c = each_once _ _
