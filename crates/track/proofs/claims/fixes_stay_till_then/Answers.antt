use Rattle.track.proofs.Shelved.{stays-till-then}
use Rattle.track.proofs.claims.fixes_stay_till_then.Goals as goal

pub returns : goal.returns
returns c = stays-till-then
