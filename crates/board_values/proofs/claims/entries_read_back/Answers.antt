use Rattle.board_values.proofs.Back.{entries-read-back}
use Rattle.board_values.proofs.claims.entries_read_back.Goals as goal

pub returns : goal.returns
returns c = entries-read-back
