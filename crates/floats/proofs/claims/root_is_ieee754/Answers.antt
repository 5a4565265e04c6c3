use Rattle.floats.proofs.Ieee754.{root-is-ieee754}
use Rattle.floats.proofs.claims.root_is_ieee754.Goals as goal

pub returns : goal.returns
returns c = root-is-ieee754
