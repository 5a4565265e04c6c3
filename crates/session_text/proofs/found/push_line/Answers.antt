use Rattle.text.proofs.Appending.{append-then}
use Rattle.session_text.proofs.found.push_line.Goals as goal

pub returns : goal.returns
returns c = append-then _ _ _ _ _ c.push_quoted.ensures c.push_return.ensures
