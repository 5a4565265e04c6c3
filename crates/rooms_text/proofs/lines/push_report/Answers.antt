use Rattle.text.proofs.Appending.{append-then}
use Rattle.octets.specs.Ascii.{ascii}
use Rattle.rooms_text.specs.Lines.{report_line}
use Rattle.rooms_text.proofs.lines.push_report.Goals as goal

pub returns : goal.returns
unfolding report_line ascii
returns c =
    append-then _ _ _ _ _ (append-then _ _ _ _ _ (append-then _ _ _ _ _ c.push_head.ensures c.push_engine.ensures) c.push_where_when.ensures) c.push_str.ensures
