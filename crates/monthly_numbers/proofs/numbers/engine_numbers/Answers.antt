use Rattle.std.proofs.Common.{sym, ◌∙◌, arith, length-take, take}
use Rattle.monthly_numbers.proofs.Counting.{no-numbers, numbers-few, turn-in, turn-by}
use Rattle.monthly_numbers.proofs.numbers.engine_numbers.Goals.{then-contains, else-contains}
use Rattle.monthly_numbers.proofs.numbers.engine_numbers.Goals as goal

pub loop-ended-init : goal.loop-ended-init
loop-ended-init c = let z = c.default-numbers.ensures in no-numbers c.args.engine c.default-numbers.result z.0 z.1.0 z.1.1.0 z.1.1.1.0 z.1.1.1.1.0 z.1.1.1.1.1

pub add-requires : goal.add-requires
add-requires c =
    let l = take c.loop-ended.ended-index c.args.endings.now in
    let n = length-take c.loop-ended.ended-index c.args.endings.now in
    rw c.loop-ended.invariant (numbers-few c.args.engine l 96 (omega (arith, n, c.loop-ended-test.true, c.requires)))

pub loop-ended-preserved : goal.loop-ended-preserved
loop-ended-preserved c = elim c.if-contains.branch [
  | then-contains w ↦ w.numbers-is ∙ turn-in c.args.engine c.args.endings.now c.loop-ended.ended-index c.ended-item.result c.loop-ended-test.true c.ended-item.is _ c.loop-ended.invariant (sym c.contains.ensures ∙ w.if-contains.true) _ w.add.ensures
  | else-contains w ↦ w.numbers-is ∙ turn-by c.args.engine c.args.endings.now c.loop-ended.ended-index c.ended-item.result c.loop-ended-test.true c.ended-item.is _ c.loop-ended.invariant (sym c.contains.ensures ∙ w.if-contains.false)
]
