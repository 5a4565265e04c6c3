use Prim.Native.Nat.{◌*◌}
use mathlib.Core.Path.{◌∙◌}
use Rattle.models.specs.Summary.{summary_size}
use Rattle.tables.proofs.Striking.{left-none, left-gone, left-stays, left-cleared}
use Rattle.models.proofs.Summarized.{of-engine, of-another, whole-moved}
use Rattle.models.proofs.strikes.strike_summaries.Goals as goal

pub loop-i-init : goal.loop-i-init
loop-i-init c = left-none c.requires

pub loop-i-preserved-then-t-at : goal.loop-i-preserved-then-t-at
loop-i-preserved-then-t-at c =
    left-gone c.loop-i.invariant c.loop-i-test.true (of-engine c.args.engine c.loop-i.t (c.loop-i.i * summary_size) (c.if-t-at.true ∙ c.number.ensures.number))

pub loop-i-preserved : goal.loop-i-preserved
loop-i-preserved c =
    let i = c.loop-i.i * summary_size in
    left-stays c.loop-i.invariant c.loop-i-test.true c.move_down.new.t (of-another c.args.engine c.loop-i.t i (rw (← c.number.ensures.number) c.if-t-at.false))
    (whole-moved c.loop-i.t c.move_down.new.t i (c.loop-i.j * summary_size) c.move_down.ensures)

pub returns : goal.returns
returns c =
    left-cleared c.loop-i.invariant c.loop-i-test.false c.clear_rest.new.t c.clear_rest.ensures
