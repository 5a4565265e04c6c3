use Rattle.board.proofs.Worked.{boards-worked}
use Rattle.board.proofs.claims.boards_worked.Goals as goal

pub returns : goal.returns
returns c = boards-worked
