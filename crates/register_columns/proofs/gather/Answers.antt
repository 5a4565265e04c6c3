use Rattle.std.proofs.Common.{arith, sym, ◌∙◌}
use Rattle.std.proofs.lemmas.Grind.{same_number_lists}
use Rattle.register_columns.proofs.Turning.{column-long, column-at}
use Rattle.register_columns.proofs.gather.Goals as goal

pub returns : goal.returns
returns c =
    let v = c.loop-i.invariant in
    same_number_lists _ _ (v.long ∙ sym (column-long _ _ _ _))
    (λ k h. v.each k (omega (arith, h, v.long, c.loop-i-test.false)) ∙ sym (column-at _ _ _ _ k (omega (arith, h, v.long))))
