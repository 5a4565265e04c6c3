use Rattle.std.proofs.Common.{arith}
use Rattle.fixes.proofs.Showing.{shows-few}
use Rattle.track_normalize.proofs.outcome.outcome.Goals as goal

pub returns-then-fixes-le1 : goal.returns-then-fixes-le1
returns-then-fixes-le1 c =
    shows-few c.args.fixes.now _ (omega (arith, c.if-fixes-le1.true)) c.decide_alone.ensures.ranked c.decide_alone.ensures.dominated c.decide_alone.ensures.refusals
