use Rattle.board.proofs.Bursts.{bursts-on-boards}
use Rattle.board.proofs.claims.bursts_on_boards.Goals as goal

pub returns : goal.returns
returns c = bursts-on-boards
