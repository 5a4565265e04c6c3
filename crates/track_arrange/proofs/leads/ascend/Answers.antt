use mathlib.Core.Path.{sym, ap, ◌∙◌}
use Rattle.fixes.specs.Ages.{time_of}
use Rattle.track_arrange.proofs.Ascending.{ascending-none, ascending-more, ascending-order}
use Rattle.track_arrange.proofs.leads.ascend.Goals as goal

pub loop-block-init : goal.loop-block-init
loop-block-init c = ascending-none

pub loop-block-preserved : goal.loop-block-preserved
loop-block-preserved c =
    ascending-more c.args.blocks.now c.loop-block.block-index c.loop-block.latest c.loop-block.invariant c.loop-block-test.true c.block-item.result c.block-item.is c.in-Some.kept
    (sym c.kept.ensures ∙ c.in-Some.is) c.time-time.result (c.time-time.ensures ∙ ap time_of c.kept-in-loop-block.view_is) c.if-time-latest.false

pub returns : goal.returns
returns c _ = ascending-order c.args.blocks.now c.loop-block.block-index c.loop-block.latest c.loop-block.invariant c.loop-block-test.false
