use Rattle.rooms_text.proofs.Silent.{silent}
use Rattle.rooms_text.proofs.claims.nothing_is_said_where_nothing_is_lacking.Goals as goal

pub returns : goal.returns
returns c = silent
