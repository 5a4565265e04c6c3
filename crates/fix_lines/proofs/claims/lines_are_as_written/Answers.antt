use Rattle.fix_lines.proofs.Worked as W
use Rattle.fix_lines.proofs.claims.lines_are_as_written.Goals as goal

pub returns : goal.returns
returns c = W.lines-as-written
