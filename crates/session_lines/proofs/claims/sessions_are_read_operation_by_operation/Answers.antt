use Rattle.session_lines.proofs.Sessions.{sessions-read, no-other-reading}
use Rattle.session_lines.proofs.claims.sessions_are_read_operation_by_operation.Goals as goal

pub returns : goal.returns
returns c = record { read = sessions-read; no_other = no-other-reading }
