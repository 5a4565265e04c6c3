use Rattle.decision.proofs.AnyOrder.{one-decision}
use Rattle.decision.proofs.claims.one_decision_in_any_order.Goals as goal

pub returns : goal.returns
returns c = one-decision
