use Rattle.board.proofs.Shows.{what-is-shown}
use Rattle.board.proofs.claims.what_is_shown.Goals as goal

pub returns : goal.returns
returns c = what-is-shown
