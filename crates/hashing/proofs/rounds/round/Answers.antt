use Rattle.hashing.specs.Blake2s.{sigma, round_by}
use Rattle.hashing.proofs.rounds.round.Goals as goal

pub returns : goal.returns
unfolding sigma round_by
returns c = rw (c.diagonals.ensures, c.columns.ensures)
