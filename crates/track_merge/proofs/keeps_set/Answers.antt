use mathlib.Core.Path.{sym, ◌∙◌}
use Rattle.track_merge.proofs.Written.{one-keeps}
use Rattle.track_merge.proofs.keeps_set.Goals as goal

pub returns-then-has_set_of : goal.returns-then-has_set_of
returns-then-has_set_of c e =
    one-keeps c.args.fix.now c.in-Some.kept c.args.blocks.now c.block-item.result c.loop-block.block-index c.loop-block-test.true c.block-item.is
    (sym c.kept.ensures ∙ c.in-Some.is) (c.has_set_of.ensures.identity c.if-has_set_of.true)
