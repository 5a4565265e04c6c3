use Rattle.session_text.proofs.Refused.{reason-where-refused, names-the-bad-line}
use Rattle.session_text.proofs.claims.a_reason_names_the_line_that_is_bad.Goals as goal

pub returns : goal.returns
returns c = record { where_refused = reason-where-refused; names_it = names-the-bad-line }
