use Rattle.track_normalize.proofs.Claimed.{alone-stands}
use Rattle.track_normalize.proofs.claims.alone_stands.Goals as goal

pub returns : goal.returns
returns c = alone-stands
