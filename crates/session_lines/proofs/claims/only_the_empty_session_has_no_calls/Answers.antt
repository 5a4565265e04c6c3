use Rattle.session_lines.proofs.Sessions.{others-have-calls, only-empty-moved}
use Rattle.session_lines.proofs.claims.only_the_empty_session_has_no_calls.Goals as goal

pub returns : goal.returns
returns c = record { others_have_calls = others-have-calls; only_empty_moved = only-empty-moved }
