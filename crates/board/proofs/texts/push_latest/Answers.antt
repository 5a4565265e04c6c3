use Rattle.std.proofs.Common.{◌∙◌, ◌+◌, ◌-◌, arith}
use Rattle.board.proofs.Drawing.{next, end}
use Rattle.board.proofs.texts.push_latest.Goals as goal

pub loop-k-preserved : goal.loop-k-preserved
loop-k-preserved c = record {
  from = omega (arith, c.loop-k.invariant.from);
  whole =
      next c.args.desk c.loop-k.out c.push_for.new.out c.args.picture.now.parts c.loop-k.k (c.loop-k.k - c.args.start) (c.loop-k.k + 1 - c.args.start) (omega (arith, c.loop-k-test.true, c.len-k-end.ensures)) (omega (arith, c.loop-k.invariant.from))
      c.push_for.ensures
      ∙ c.loop-k.invariant.whole;
}

pub returns : goal.returns
returns c = end c.args.desk _ c.loop-k.out c.args.picture.now.parts c.loop-k.k _ (omega (arith, c.loop-k-test.false, c.len-k-end.ensures)) c.loop-k.invariant.whole
