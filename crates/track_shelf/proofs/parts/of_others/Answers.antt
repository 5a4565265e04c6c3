use Rattle.std.proofs.Common.{not, arith, ap, length, take}
use lib.Seq.{length-take-le}
use Rattle.lists.proofs.Lists.{filter-few}
use Rattle.track_shelf.specs.Waiting.{Waiting, is_reported_by}
use Rattle.track_shelf.proofs.parts.of_others.Goals as goal

pub push-requires : goal.push-requires
push-requires c =
    let i = c.loop-fix.fix-index in
    let all = c.as_slice-all.result.now in
    let k = ap length c.loop-fix.invariant in
    let f = filter-few (λ (w : Waiting). not (is_reported_by c.args.engine w)) (take i all) in
    let l = length-take-le i all (omega (arith, c.loop-fix-test.true)) in
    (omega arith, omega (arith, k, f, l, c.as_slice-all.ensures.fits, c.loop-fix-test.true))
