use Rattle.track.proofs.Ordered.{stays-in-order, reached-in-order}
use Rattle.track.proofs.claims.calls_keep_the_order.Goals as goal

pub returns-clause-stays : goal.returns-clause-stays
returns-clause-stays c = stays-in-order

pub returns-clause-reached : goal.returns-clause-reached
returns-clause-reached c = reached-in-order
