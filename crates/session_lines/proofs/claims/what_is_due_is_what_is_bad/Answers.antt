use Rattle.session_lines.proofs.Forward.{due-here, due-later}
use Rattle.session_lines.proofs.Named.{first-line, lines-after, due-is-bad}
use Rattle.session_lines.proofs.claims.what_is_due_is_what_is_bad.Goals as goal

pub returns : goal.returns
returns c = record { first_line = first-line; lines_after = lines-after; here = due-here; later = due-later; is_bad = due-is-bad }
