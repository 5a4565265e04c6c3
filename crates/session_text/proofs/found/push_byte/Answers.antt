use Rattle.std.proofs.Common.{◌∙◌, sym}
use Rattle.text.proofs.Appending.{append-then}
use Rattle.session_text.proofs.found.push_byte.Goals as goal

pub returns-else-is_printable : goal.returns-else-is_printable
returns-else-is_printable c =
    let e = sym c.is_printable.ensures ∙ c.if-is_printable.false in
    rw e (append-then _ _ _ _ _ c.push_bytes.ensures c.push_hex.ensures)
