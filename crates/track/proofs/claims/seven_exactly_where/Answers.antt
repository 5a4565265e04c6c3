use Rattle.track.proofs.Sevens.{seven-exactly-where}
use Rattle.track.proofs.claims.seven_exactly_where.Goals as goal

pub returns : goal.returns
returns c = seven-exactly-where
