use Rattle.board_values.proofs.Headers.{say-board}
use Rattle.board_values.proofs.claims.entries_say_board.Goals as goal

pub returns : goal.returns
returns c = say-board
