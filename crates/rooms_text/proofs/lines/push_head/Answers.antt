use Rattle.text.proofs.Appending.{append-then}
use Rattle.octets.specs.Ascii.{ascii}
use Rattle.rooms_text.proofs.lines.push_head.Goals as goal

pub returns : goal.returns
unfolding ascii
returns c = append-then _ _ _ _ _ (append-then _ _ _ _ _ (append-then _ _ _ _ _ c.push_str.ensures c.push_letter.ensures) c.push_str-2.ensures) c.push_str-3.ensures
