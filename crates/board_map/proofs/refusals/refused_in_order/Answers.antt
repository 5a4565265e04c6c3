use Rattle.board_map.proofs.Refusing.{map-in-order}
use Rattle.board_map.proofs.refusals.refused_in_order.Goals as goal

pub returns : goal.returns
returns c = map-in-order
