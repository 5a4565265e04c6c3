use Rattle.std.proofs.Common.{sym, ap, ◌∙◌, not, refl}
use Rattle.decision_rule.proofs.settled.Settled.is_ranked.Goals as goal

pub returns-then-is_refused : goal.returns-then-is_refused
returns-then-is_refused c = rw (sym c.is_refused.ensures ∙ c.if-is_refused.true) refl

pub returns : goal.returns
returns c = rw (sym c.is_refused.ensures ∙ c.if-is_refused.false) (ap not c.is_covered.ensures)
