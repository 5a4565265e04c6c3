use Rattle.track_arrange.proofs.Claimed.{arranged-in-order, order-stays}
use Rattle.track_arrange.proofs.claims.arranged_in_order.Goals as goal

pub returns-clause-in_order : goal.returns-clause-in_order
returns-clause-in_order c = arranged-in-order

pub returns-clause-stays : goal.returns-clause-stays
returns-clause-stays c = order-stays
