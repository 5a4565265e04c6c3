use Rattle.text.proofs.Appending.{append-then}
use Rattle.octets.specs.Ascii.{ascii}
use Rattle.fix_lines.specs.Lines.{where_when}
use Rattle.fix_lines.proofs.push_where_when.Goals as goal

pub returns : goal.returns
unfolding where_when ascii
returns c = search append-then depth 10
