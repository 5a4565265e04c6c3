use Rattle.std.proofs.Common.{◌≡◌, sym, ap, ◌∙◌, ◌+◌, arith, refl, false}
use Rattle.std.specs.Prelude.{None}
use Rattle.decision_items.specs.Values as V
use Rattle.decision_rule.specs.Listed as L
use Rattle.decision_rule.specs.Listed.{relations}
use Rattle.decision_rule.specs.Rows as R
use Rattle.decision_rule.proofs.Sets.{hit, miss}
use Rattle.decision_rule.proofs.Factors.{put-in, read-out}
use Rattle.decision_rule.proofs.Known.{two-at, row-none, row-of, apart-no, resists-no, resists-over, resists-yes}
use Rattle.decision_rule.proofs.listed.Listed.row.Goals as goal

pub loop-j-init : goal.loop-j-init
loop-j-init c = record { row = c.empty-row.ensures ∙ row-none c.args.self.now.items.now c.args.i; known = c.requires.known }

pub loop-j-preserved-then-not-is_subset_of : goal.loop-j-preserved-then-not-is_subset_of
loop-j-preserved-then-not-is_subset_of c =
    let l = c.args.self.now.items.now in
    let i = c.args.i in
    let j = c.loop-j.j in
    let s : L.has_subset l i j ≡ false = sym (two-at false V.is_subset l j i c.index-self-j.result c.index-self-i.result c.loop-j-test.true c.requires.i_below) ∙ sym c.is_subset_of.ensures ∙ c.if-not-is_subset_of.true in
    let d = apart-no l i j c.requires.i_below c.loop-j-test.true s in
    record {
      row =
          row-of l i (j + 1) (miss ((relations l).disagrees i) j (ap (λ w. w.disagreeing.word) c.loop-j.invariant.row) refl d)
          (miss (R.resists l i) j (ap (λ w. w.resisting.word) c.loop-j.invariant.row) refl (resists-no l i j d))
          (miss (L.has_subset l i) j (ap (λ w. w.subsets.word) c.loop-j.invariant.row) refl s);
      known = c.loop-j.invariant.known;
    }

pub disagrees-requires-clause-known : goal.disagrees-requires-clause-known
disagrees-requires-clause-known c =
    read-out c.args.self.now.items.now c.loop-j.factors c.loop-j.j c.index-self-j.result None c.loop-j.invariant.known c.loop-j-test.true (omega arith)

pub loop-j-preserved-then-not-disagrees : goal.loop-j-preserved-then-not-disagrees
loop-j-preserved-then-not-disagrees c =
    let l = c.args.self.now.items.now in
    let i = c.args.i in
    let j = c.loop-j.j in
    let s : c.is_subset_of.result ≡ L.has_subset l i j = c.is_subset_of.ensures ∙ two-at false V.is_subset l j i c.index-self-j.result c.index-self-i.result c.loop-j-test.true c.requires.i_below in
    let d : (relations l).disagrees i j ≡ false = sym (two-at false V.disagrees l i j c.index-self-i.result c.index-self-j.result c.requires.i_below c.loop-j-test.true) ∙ sym c.disagrees.ensures.result ∙ c.if-not-disagrees.true in
    record {
      row =
          row-of l i (j + 1) (miss ((relations l).disagrees i) j (ap (λ w. w.disagreeing.word) c.loop-j.invariant.row) refl d)
          (miss (R.resists l i) j (ap (λ w. w.resisting.word) c.loop-j.invariant.row) refl (resists-no l i j d))
          (c.insert.ensures ∙ hit (L.has_subset l i) j (ap (λ w. w.subsets.word) c.loop-j.invariant.row) s c.if-not-is_subset_of.false);
      known = put-in l c.loop-j.factors j c.index-self-j.result c.disagrees.new.known c.loop-j.invariant.known c.loop-j-test.true c.disagrees.ensures.known;
    }

pub loop-j-preserved-then-outstands : goal.loop-j-preserved-then-outstands
loop-j-preserved-then-outstands c =
    let l = c.args.self.now.items.now in
    let i = c.args.i in
    let j = c.loop-j.j in
    let s : c.is_subset_of.result ≡ L.has_subset l i j = c.is_subset_of.ensures ∙ two-at false V.is_subset l j i c.index-self-j.result c.index-self-i.result c.loop-j-test.true c.requires.i_below in
    let d : c.disagrees.result ≡ (relations l).disagrees i j = c.disagrees.ensures.result ∙ two-at false V.disagrees l i j c.index-self-i.result c.index-self-j.result c.requires.i_below c.loop-j-test.true in
    let o : c.outstands.result ≡ (relations l).outstands i j = c.outstands.ensures ∙ two-at false V.outstands l i j c.index-self-i.result c.index-self-j.result c.requires.i_below c.loop-j-test.true in
    record {
      row =
          row-of l i (j + 1)
          (c.insert-in-loop-j.ensures ∙ hit ((relations l).disagrees i) j (ap (λ w. w.disagreeing.word) c.loop-j.invariant.row) d c.if-not-disagrees.false)
          (miss (R.resists l i) j (ap (λ w. w.resisting.word) c.loop-j.invariant.row) refl (resists-over l i j (sym o ∙ c.if-outstands.true)))
          (c.insert.ensures ∙ hit (L.has_subset l i) j (ap (λ w. w.subsets.word) c.loop-j.invariant.row) s c.if-not-is_subset_of.false);
      known = put-in l c.loop-j.factors j c.index-self-j.result c.disagrees.new.known c.loop-j.invariant.known c.loop-j-test.true c.disagrees.ensures.known;
    }

pub loop-j-preserved : goal.loop-j-preserved
loop-j-preserved c =
    let l = c.args.self.now.items.now in
    let i = c.args.i in
    let j = c.loop-j.j in
    let s : c.is_subset_of.result ≡ L.has_subset l i j = c.is_subset_of.ensures ∙ two-at false V.is_subset l j i c.index-self-j.result c.index-self-i.result c.loop-j-test.true c.requires.i_below in
    let d : c.disagrees.result ≡ (relations l).disagrees i j = c.disagrees.ensures.result ∙ two-at false V.disagrees l i j c.index-self-i.result c.index-self-j.result c.requires.i_below c.loop-j-test.true in
    let o : c.outstands.result ≡ (relations l).outstands i j = c.outstands.ensures ∙ two-at false V.outstands l i j c.index-self-i.result c.index-self-j.result c.requires.i_below c.loop-j-test.true in
    record {
      row =
          row-of l i (j + 1)
          (c.insert-in-loop-j.ensures ∙ hit ((relations l).disagrees i) j (ap (λ w. w.disagreeing.word) c.loop-j.invariant.row) d c.if-not-disagrees.false)
          (c.insert-in-loop-j-2.ensures
          ∙ hit (R.resists l i) j (ap (λ w. w.resisting.word) c.loop-j.invariant.row) refl (resists-yes l i j (sym d ∙ c.if-not-disagrees.false) (sym o ∙ c.if-outstands.false)))
          (c.insert.ensures ∙ hit (L.has_subset l i) j (ap (λ w. w.subsets.word) c.loop-j.invariant.row) s c.if-not-is_subset_of.false);
      known = put-in l c.loop-j.factors j c.index-self-j.result c.disagrees.new.known c.loop-j.invariant.known c.loop-j-test.true c.disagrees.ensures.known;
    }
