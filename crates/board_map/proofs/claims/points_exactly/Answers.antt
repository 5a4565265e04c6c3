use Rattle.board_map.proofs.Exactly.{points-exactly}
use Rattle.board_map.proofs.claims.points_exactly.Goals as goal

pub returns : goal.returns
returns c = points-exactly
