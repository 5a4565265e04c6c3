use mathlib.Core.Path.{subst, ◌∙◌}
use Rattle.fixes.specs.Items.{no_fix}
use Rattle.fixes.specs.Decided.{IsFix}
use Rattle.fixes.proofs.Showing.{get_or-default}
use Rattle.track_normalize.proofs.outcome.item_at.Goals as goal

pub returns : goal.returns
returns c = subst (λ f. IsFix f c.item.result) (c.index-fixes-i.is ∙ get_or-default c.args.fixes.now c.args.i c.index-fixes-i.result no_fix c.requires) c.item.ensures
