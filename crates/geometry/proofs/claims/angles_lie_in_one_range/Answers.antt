use Rattle.geometry.proofs.Quadrants.{covered-once}
use Rattle.geometry.proofs.claims.angles_lie_in_one_range.Goals as goal

pub returns : goal.returns
returns c = covered-once
