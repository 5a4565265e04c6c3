use Rattle.decision.proofs.AnyOrder.{no-other}
use Rattle.decision.proofs.claims.no_other_decision_in_any_order.Goals as goal

pub returns : goal.returns
returns c = no-other
