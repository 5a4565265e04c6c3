use Rattle.std.proofs.Common.{◌∙◌, ◌+◌, ◌-◌, ap, ℕ, arith}
use Rattle.board_picture.specs.declared.part.Counts.{Counts}
use Rattle.board_picture.specs.Lines.{all_counted}
use Rattle.board_values.proofs.Drawing.{next, end}
use Rattle.board_values.proofs.texts.push_latest.Goals as goal

pub loop-k-preserved : goal.loop-k-preserved
loop-k-preserved c = record {
  from = omega (arith, c.loop-k.invariant.from);
  small = omega (arith, c.loop-k.invariant.small, c.all-before.ensures.fits);
  whole =
      next c.args.register.now.records c.loop-k.out c.push_transmission.new.out c.args.picture.now.parts c.loop-k.k (c.loop-k.k - c.args.start) (c.loop-k.k + 1 - c.args.start) c.loop-k.before _
      (omega (arith, c.loop-k-test.true, c.len-k-end.ensures)) (omega (arith, c.loop-k.invariant.from))
      (ap (λ (n : ℕ). c.loop-k.before + n) (c.all-before.ensures.value ∙ ap (λ (n : Counts). all_counted n) c.counts.ensures))
      c.push_transmission.ensures
      ∙ c.loop-k.invariant.whole;
}

pub returns : goal.returns
returns c = end c.args.register.now.records _ c.loop-k.out c.args.picture.now.parts c.loop-k.k _ _ (omega (arith, c.loop-k-test.false, c.len-k-end.ensures)) c.loop-k.invariant.whole
