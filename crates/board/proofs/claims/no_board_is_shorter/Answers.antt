use Rattle.board.proofs.Shortest.{none-shorter}
use Rattle.board.proofs.claims.no_board_is_shorter.Goals as goal

pub returns : goal.returns
returns c = none-shorter
