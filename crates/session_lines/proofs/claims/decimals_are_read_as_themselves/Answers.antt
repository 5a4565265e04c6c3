use Rattle.session_lines.proofs.Printed.{read-as-itself, one-text, signed-printed}
use Rattle.session_lines.proofs.claims.decimals_are_read_as_themselves.Goals as goal

pub returns : goal.returns
returns c = record { unsigned = read-as-itself; one_text = one-text; signed = signed-printed }
