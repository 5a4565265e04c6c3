use Rattle.decision.proofs.Decided.{order-free}
use Rattle.decision.proofs.claims.order_of_items_is_free.Goals as goal

pub returns : goal.returns
returns c = order-free
