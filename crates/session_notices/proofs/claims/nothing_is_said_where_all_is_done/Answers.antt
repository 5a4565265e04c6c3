use Rattle.session_notices.proofs.Nothing.{nothing-said, done-exactly-when}
use Rattle.session_notices.proofs.claims.nothing_is_said_where_all_is_done.Goals as goal

pub returns : goal.returns
returns c = record { nothing = nothing-said; done = done-exactly-when }
