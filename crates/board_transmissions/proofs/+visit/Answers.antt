use Rattle.std.proofs.Common.{◌≤◌, ◌≡◌, sym, ap, ◌∙◌, true, arith, length, length-set}
use Rattle.board_transmissions.specs.Walk as W
use Rattle.board_transmissions.specs.Walk.{unmarked}
use Rattle.board_transmissions.specs.Labels.{relabel}
use Rattle.board_transmissions.proofs.Marks.{each_start, each-old, each-apart, each-end, each-new, unmarked-set, visited-grown, visit-is}
use Rattle.board_transmissions.proofs.Labelling.{progress-none, progress-more, progress-end}
use Rattle.board_transmissions.specs.Links.{link_at}
use Rattle.board_transmissions.proofs.Linking.{linked-there}
use Rattle.board_transmissions.proofs.+visit.Goals.{then-not-marks-j+then-is_linked, else-not-marks-j, else-not-marks-j-via-then-not-marks-j+else-is_linked, else-not-marks-j-via-else-not-marks-j}
use Rattle.board_transmissions.proofs.+visit.Goals as goal

pub loop-j-init : goal.loop-j-init
loop-j-init t c = record { progress = progress-none _ _ _; left = each_start _ _ _ _ }

pub visit-requires : goal.visit-requires
visit-requires t c =
    let p = c.requires in
    let z = unmarked-set c.args.marks.now c.args.i (omega arith) p.i_unmarked in
    let u = c.loop-j.invariant.progress.grown.fewer in
    (omega arith, (p.few, (c.loop-j-test.true, c.if-not-marks-j.true)))

pub loop-j-preserved : goal.loop-j-preserved
loop-j-preserved t c =
    let r = c.loop-j in
    let k = r.invariant in
    let a = c.args in
    let fs = a.fixes.now in
    let same = k.progress.grown.same in
    let long : length fs ≤ length r.marks = rw (same, length-set a.marks.now a.i true) (omega arith) in
    elim c.if-not-marks-j.branch [
      | then-not-marks-j+then-is_linked w ↦
          (let q : c.if-not-marks-j.marks ≡ W.visit (link_at fs) (length fs) (unmarked r.marks) r.j r.marks = w.marks-is ∙ w.visit.ensures.marks_after in
          let y : c.if-not-marks-j.labels ≡ relabel a.s r.marks c.if-not-marks-j.marks r.labels = w.labels-is ∙ w.visit.ensures.labels_after ∙ ap (λ m. relabel a.s r.marks m r.labels) (sym w.marks-is) in
          let b = linked-there fs a.i r.j _ _ _ c.requires.i_in_bounds c.loop-j-test.true w.index-fixes-i.is w.index-fixes-j.is w.is_linked.ensures in
          record {
            progress = progress-more _ _ _ _ _ _ _ k.progress (visited-grown _ _ _ _ _ _ q) y;
            left = each-new (link_at fs) _ _ a.i _ _ _ _ _ k.left long k.progress.grown.fewer c.loop-j-test.true w.if-not-marks-j.true b w.if-is_linked.true q;
          })
      | else-not-marks-j w ↦
          (let q : c.if-not-marks-j.marks ≡ r.marks = w.marks-is in
          let y : c.if-not-marks-j.labels ≡ r.labels = w.labels-is in
          record {
            progress = rw (q, y) k.progress;
            left = elim w.else-not-marks-j.branch [
              | else-not-marks-j-via-then-not-marks-j+else-is_linked v ↦
                  each-apart _ _ _ _ _ _ _ _ k.left c.loop-j-test.true v.if-not-marks-j.true
                  (linked-there fs a.i r.j _ _ _ c.requires.i_in_bounds c.loop-j-test.true v.index-fixes-i.is v.index-fixes-j.is v.is_linked.ensures) v.if-is_linked.false q
              | else-not-marks-j-via-else-not-marks-j v ↦ rw q (each-old _ _ _ _ _ _ k.left c.loop-j-test.true v.if-not-marks-j.false)
            ];
          })
    ]

pub returns-clause-marks_after : goal.returns-clause-marks_after
returns-clause-marks_after t c = each-end _ _ _ _ _ _ c.loop-j.invariant.left c.loop-j-test.false ∙ sym (visit-is _ _ _ _ (omega arith) c.requires.i_unmarked)

pub returns-clause-labels_after : goal.returns-clause-labels_after
returns-clause-labels_after t c = progress-end _ _ _ _ _ _ (omega arith) c.requires.i_unmarked c.loop-j.invariant.progress
