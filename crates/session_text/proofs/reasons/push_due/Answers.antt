use Rattle.octets.specs.Ascii.{ascii}
use Rattle.text.proofs.Appending.{append-then}
use Rattle.session_text.proofs.reasons.push_due.Goals as goal

pub returns : goal.returns
unfolding ascii
returns c =
    append-then _ _ _ _ _
    (append-then _ _ _ _ _ (rw c.key.ensures at c.push_bytes.ensures) c.push_str.ensures)
    (rw c.words.ensures at c.push_bytes-2.ensures)
