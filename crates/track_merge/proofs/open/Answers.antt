use mathlib.Core.Path.{sym, ap, ◌∙◌}
use Rattle.std.specs.List.{list_any}
use Rattle.track_arrange.specs.Blocks.{held}
use Rattle.track_merge.specs.Merged.{keeps}
use Rattle.track_merge.proofs.Opening.{leaves}
use Rattle.track_merge.proofs.open.Goals as goal

pub returns-then-keeps : goal.returns-then-keeps
returns-then-keeps c =
    leaves c.args.fix.now (held c.args.n c.args.t.now) c.alone.result _ _ _ c.alone.ensures.held c.admit-count.ensures.filled c.admit-count.ensures.held
    (sym c.if-keeps.true ∙ c.keeps.ensures ∙ ap (list_any (keeps c.args.fix.now)) (c.deref.ensures.0 ∙ c.blocks-2.ensures))

pub returns-else-keeps : goal.returns-else-keeps
returns-else-keeps c =
    leaves c.args.fix.now (held c.args.n c.args.t.now) c.alone.result _ _ _ c.alone.ensures.held c.admit-count.ensures.filled c.admit-count.ensures.held
    (sym c.if-keeps.false ∙ c.keeps.ensures ∙ ap (list_any (keeps c.args.fix.now)) (c.deref.ensures.0 ∙ c.blocks-2.ensures))
