use Rattle.text.proofs.Appending.{append-then}
use Rattle.octets.specs.Ascii.{ascii}
use Rattle.fix_lines.specs.Lines.{header}
use Rattle.fix_lines.proofs.push_header.Goals as goal

pub returns : goal.returns
unfolding header ascii
returns c = search append-then depth 10
