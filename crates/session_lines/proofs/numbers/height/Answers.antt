use Rattle.std.proofs.Common.{sym, ◌∙◌}
use Rattle.session_lines.proofs.Heights.{height_none}
use Rattle.session_lines.proofs.numbers.height.Goals as goal

pub returns-then-eq : goal.returns-then-eq
returns-then-eq c = height_none _ _ (sym c.eq.ensures ∙ c.if-eq.true) c.as_slice.ensures
