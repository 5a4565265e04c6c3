use Rattle.register_join.proofs.Refusing.{join-in-order, lacks-in-order}
use Rattle.register_join.proofs.refusals.refused_in_order.Goals as goal

pub returns-clause-join : goal.returns-clause-join
returns-clause-join c = join-in-order

pub returns-clause-lacks : goal.returns-clause-lacks
returns-clause-lacks c = lacks-in-order
