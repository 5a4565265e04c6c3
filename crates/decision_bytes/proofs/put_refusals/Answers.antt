use Rattle.std.proofs.Common.{ap, arith, length, take}
use lib.ListN.{length-take, length-set}
use lib.Seq.{take_all}
use Rattle.octets.proofs.Puts.{put-put, put-none, put_as, put_one}
use Rattle.decision_bytes.specs.Answer.{each_bytes}
use Rattle.decision_bytes.proofs.Parts.{length-each, each-more}
use Rattle.decision_bytes.proofs.put_refusals.Goals as goal

pub loop-x-init : goal.loop-x-init
unfolding each_bytes
loop-x-init c = put-none _ _

pub put_refusal-next-requires : goal.put_refusal-next-requires
put_refusal-next-requires c =
    let l = c.args.refusals.now in
    let i = c.loop-x.x-index in
    omega (
      arith,
      c.loop-x.invariant.next,
      c.loop-x.auto.out,
      length-set c.args.out.now c.args.at (length l),
      length-each (take i l),
      length-take i l,
      c.loop-x-test.true,
      c.requires.room,
      c.requires.few,
    )

pub loop-x-preserved : goal.loop-x-preserved
loop-x-preserved c = put_as (each-more c.args.refusals.now c.loop-x.x-index _ c.loop-x-test.true) (put-put c.loop-x.invariant c.put_refusal-next.ensures)

pub returns : goal.returns
returns c =
    let l = c.args.refusals.now in
    let e = ap each_bytes (take_all c.loop-x.x-index l c.loop-x-test.false) in
    let p = put_as e c.loop-x.invariant in
    (omega (arith, p.next, length-each l, c.requires.few), put-put (put_one c.args.out.now c.args.at (length l)) p)
