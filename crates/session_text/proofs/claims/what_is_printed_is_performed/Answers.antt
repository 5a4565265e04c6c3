use Rattle.session_text.proofs.Performing.{nine-bytes-each, printed-as-performed}
use Rattle.session_text.proofs.claims.what_is_printed_is_performed.Goals as goal

pub returns : goal.returns
returns c = record { nine_bytes = nine-bytes-each; printed = printed-as-performed }
