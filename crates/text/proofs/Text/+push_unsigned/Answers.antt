use Rattle.std.proofs.Common.{◌∙◌}
use Rattle.text.proofs.Exact.{as-whole, as-first, as-next}
use Rattle.text.proofs.Text.+push_unsigned.Goals as goal
use Rattle.text.proofs.Text.+push_unsigned.Goals.{then-k-eq1, else-k-eq1}

pub returns-then-k-eq0 : goal.returns-then-k-eq0
returns-then-k-eq0 t c = as-whole _ _ _ _ c.if-k-eq0.true c.push_whole.ensures

pub returns : goal.returns
returns t c =
    elim c.if-k-eq1.branch [
      | then-k-eq1 w ↦ as-first _ _ _ _ _ _ w.if-k-eq1.true c.push_unsigned.ensures (w.self-is ∙ w.push_byte.ensures) c.push_byte-2.ensures
      | else-k-eq1 w ↦ as-next _ _ _ _ _ _ c.if-k-eq0.false w.if-k-eq1.false c.push_unsigned.ensures w.self-is c.push_byte-2.ensures
    ]
