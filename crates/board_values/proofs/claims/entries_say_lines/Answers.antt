use Rattle.board_values.proofs.Said.{say-lines}
use Rattle.board_values.proofs.claims.entries_say_lines.Goals as goal

pub returns : goal.returns
returns c = say-lines
