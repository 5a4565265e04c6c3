use Rattle.track_merge.proofs.Claimed.{order-kept}
use Rattle.track_merge.proofs.claims.order_kept.Goals as goal

pub returns : goal.returns
returns c = order-kept
