use Rattle.std.proofs.Common.{arith, ap, length, take}
use lib.Seq.{length-take-le}
use Rattle.lists.proofs.Lists.{filter-few}
use Rattle.track_shelf.specs.Waiting.{waits_for}
use Rattle.track_shelf.proofs.parts.for_model.Goals as goal

pub push-requires : goal.push-requires
push-requires c =
    let i = c.loop-fix.fix-index in
    let all = c.as_slice-all.result.now in
    let k = ap length c.loop-fix.invariant in
    let f = filter-few (waits_for c.args.model) (take i all) in
    let l = length-take-le i all (omega (arith, c.loop-fix-test.true)) in
    (omega arith, omega (arith, k, f, l, c.as_slice-all.ensures.fits, c.loop-fix-test.true))
