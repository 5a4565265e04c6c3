use Rattle.board.proofs.Nothing.{no-bytes-exactly-when}
use Rattle.board.proofs.claims.no_bytes_exactly_when.Goals as goal

pub returns : goal.returns
returns c = no-bytes-exactly-when
