use Rattle.std.proofs.Common.{get_or, ap, ◌∙◌, arith, eq-eqb, ne_eqb}
use Rattle.board_transmissions.proofs.Counting.{some-labelled}
use Rattle.board_transmissions.proofs.Parting.{filt-none, passed-in, passed-by, passed-few, all-below}
use Rattle.board_transmissions.proofs.parts.Transmissions.nth.Goals.{then-self-j, else-self-j}
use Rattle.board_transmissions.proofs.parts.Transmissions.nth.Goals as goal

pub loop-j-init : goal.loop-j-init
loop-j-init c = c.new-members.ensures ∙ filt-none _

pub push-requires : goal.push-requires
push-requires c = let z = passed-few _ _ _ c.loop-j.invariant in let few = c.self.invariant.few in (omega arith, omega (arith, z, few))

pub loop-j-preserved : goal.loop-j-preserved
loop-j-preserved c =
    elim c.if-self-j.branch [
      | then-self-j w ↦ passed-in _ _ _ c.loop-j.invariant _ (eq-eqb _ _ w.if-self-j.true) (ap (λ v. v.items) w.members-is ∙ w.push.ensures.items)
      | else-self-j w ↦ rw w.members-is (passed-by _ _ _ c.loop-j.invariant (ne_eqb _ _ w.if-self-j.false))
    ]

pub invariant_of-result : goal.invariant_of-result
invariant_of-result c = record {
  some = some-labelled _ _ _ c.self.invariant c.args.k _ (rw (← c.self.view_is) at c.requires) (ap (λ l. get_or l c.args.k 0) c.deref.ensures.0) _ _ c.loop-j.invariant (omega arith);
  there = all-below _ _ _ _ c.loop-j.invariant (omega arith);
}
