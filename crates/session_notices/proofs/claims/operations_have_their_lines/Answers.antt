use Rattle.session_notices.proofs.Counted.{lines-counted}
use Rattle.session_notices.proofs.claims.operations_have_their_lines.Goals as goal

pub returns : goal.returns
returns c = lines-counted
