use mathlib.Core.Path.{sym, ◌∙◌}
use Rattle.track_merge.proofs.Written.{kept-is, none-kept}
use Rattle.track_merge.proofs.leads.Goals as goal

pub returns-in-Some : goal.returns-in-Some
returns-in-Some c = c.is_of.ensures ∙ sym (kept-is c.args.fix.now c.in-Some.kept c.args.block.now (sym c.kept.ensures ∙ c.in-Some.is))

pub returns-in-None : goal.returns-in-None
returns-in-None c = sym (none-kept c.args.fix.now c.args.block.now (sym c.kept.ensures ∙ c.in-None.is))
