use Rattle.board.proofs.Positions as P
use Rattle.board.proofs.claims.positions.Goals as goal

pub returns : goal.returns
returns c = P.positions
