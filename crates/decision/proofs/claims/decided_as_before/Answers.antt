use Rattle.decision.proofs.Remeasured.{decided-as-before}
use Rattle.decision.proofs.claims.decided_as_before.Goals as goal

pub returns : goal.returns
returns c = decided-as-before
