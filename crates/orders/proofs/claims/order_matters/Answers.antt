use Rattle.orders.proofs.Claimed.{order-matters}
use Rattle.orders.proofs.claims.order_matters.Goals as goal

pub returns : goal.returns
returns c = order-matters
