use Rattle.fix_lines.proofs.Widths as W
use Rattle.fix_lines.proofs.claims.none_exactly_when.Goals as goal

pub returns : goal.returns
returns c = W.none-exactly-when
