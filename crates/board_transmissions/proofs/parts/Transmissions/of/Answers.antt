use Rattle.std.proofs.Common.{subst, sym, ap, ◌∙◌, arith}
use Rattle.std.specs.Prelude.{List}
use Rattle.fixes.specs.Fix.{Fix}
use Rattle.board_transmissions.specs.Labels.{relabel}
use Rattle.board_fixes.proofs.Kept.{apart}
use Rattle.board_transmissions.specs.Links.{Parts}
use Rattle.board_transmissions.proofs.Counting.{parts-of}
use Rattle.board_transmissions.proofs.Parting.{walked-none, walked-in, walked-by, passed-few, parts-are}
use Rattle.board_transmissions.proofs.parts.Transmissions.of.Goals.{then-not-marks-s, else-not-marks-s}
use Rattle.board_transmissions.proofs.parts.Transmissions.of.Goals as goal

pub loop-s-init : goal.loop-s-init
loop-s-init c = rw c.new-firsts.ensures (walked-none c.args.fixes.now)

pub push-requires : goal.push-requires
push-requires c = let z = passed-few _ _ _ c.loop-s.invariant.firsts_are in let few = c.requires.few in (omega arith, omega (arith, z))

pub loop-s-preserved : goal.loop-s-preserved
loop-s-preserved c =
    let r = c.loop-s in
    let p = c.requires in
    elim c.if-not-marks-s.branch [
      | then-not-marks-s w ↦
          (let v = w.visit.ensures in
          walked-in _ p.few p.formed (apart _ p.in_order) _ c.loop-s-test.true _ _ _ r.invariant w.if-not-marks-s.true _ _ _ (w.marks-is ∙ v.marks_after)
          (w.labels-is ∙ v.labels_after ∙ ap (λ m. relabel r.s r.marks m r.labels) (sym w.marks-is)) (ap (λ v. v.items) w.firsts-is ∙ w.push.ensures.items))
      | else-not-marks-s w ↦ rw (w.marks-is, w.labels-is, w.firsts-is) (walked-by _ p.few p.formed (apart _ p.in_order) _ c.loop-s-test.true _ _ _ r.invariant w.if-not-marks-s.false)
    ]

pub returns : goal.returns
returns c = ap (λ (l : List (List Fix)). record { fixes = c.args.fixes.now; parts = l }) (parts-are _ c.requires.few c.requires.formed (apart _ c.requires.in_order) _ _ _ _ c.loop-s.invariant (omega arith) c.loop-s-test.false)

pub invariant_of-result : goal.invariant_of-result
invariant_of-result c =
    let p = c.requires in
    subst (Parts c.args.fixes.now) (sym (parts-are _ p.few p.formed (apart _ p.in_order) _ _ _ _ c.loop-s.invariant (omega arith) c.loop-s-test.false)) (parts-of _ p.few p.formed p.in_order)
