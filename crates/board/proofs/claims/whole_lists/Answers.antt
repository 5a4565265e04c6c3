use Rattle.board.proofs.WholeLists.{whole-lists}
use Rattle.board.proofs.claims.whole_lists.Goals as goal

pub returns : goal.returns
returns c = whole-lists
