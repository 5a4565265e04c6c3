use Rattle.std.proofs.Common.{sym, ap, ◌∙◌}
use Rattle.text.specs.Texts.{append}
use Rattle.text.proofs.Shapes.{hex-zero, hex-more}
use Rattle.text.proofs.Appending.{append-then, append-nil}
use Rattle.text.proofs.Text.+push_hex.Goals as goal

pub returns-then-k-ne0 : goal.returns-then-k-ne0
returns-then-k-ne0 t c =
    append-then _ _ _ _ _ c.push_hex.ensures (rw c.hex_digit.ensures at c.push_byte.ensures)
    ∙ ap (append c.args.self.now) (sym (hex-more _ _ c.if-k-ne0.true))

pub returns-else-k-ne0 : goal.returns-else-k-ne0
returns-else-k-ne0 t c = rw (hex-zero _ _ c.if-k-ne0.false) (sym (append-nil c.args.self.now))
