use Rattle.track.proofs.Placed.{waits-in-order}
use Rattle.track.proofs.claims.fixes_wait_in_order.Goals as goal

pub returns : goal.returns
returns c = waits-in-order
