use Rattle.std.proofs.Common.{◌∙◌, arith}
use lib.ListN.{length-set}
use Rattle.decision.proofs.Holding.{each-more}
use Rattle.decision.proofs.read.Goals as goal

pub loop-i-preserved : goal.loop-i-preserved
loop-i-preserved g c = record {
  long = length-set c.loop-i.items c.loop-i.i c.item.result ∙ c.loop-i.invariant.long;
  held = each-more (λ i x. goal.F-post g c.args.item i x) c.loop-i.items c.loop-i.i c.item.result (omega (arith, c.loop-i.invariant.long, c.loop-i-test.true)) c.item.ensures c.loop-i.invariant.held;
}

pub returns : goal.returns
returns g c = (c.loop-i.invariant.long, λ i x h e. c.loop-i.invariant.held i x (omega (arith, h, c.loop-i-test.false)) e)
