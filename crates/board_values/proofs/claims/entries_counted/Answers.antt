use Rattle.board_values.proofs.Counted.{counted}
use Rattle.board_values.proofs.claims.entries_counted.Goals as goal

pub returns : goal.returns
returns c = counted
