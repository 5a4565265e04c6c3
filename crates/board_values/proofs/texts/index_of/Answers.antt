use Rattle.std.proofs.Common.{◌∙◌, sym, ap, arith}
use Rattle.octets.specs.Order.{same}
use Rattle.fixes.specs.Fix.{Fix}
use Rattle.board_values.proofs.Walks.{here, past, index-here, index-past, index-end}
use Rattle.board_values.proofs.texts.index_of.Goals as goal

pub returns-then-eq-clause-value : goal.returns-then-eq-clause-value
returns-then-eq-clause-value c =
    let x = c.args.identity.now in
    here _ _ _ c.loop-line.invariant.whole
    (index-here c.args.picture.now.fixes c.args.lines.now x c.loop-line.line-index _ c.loop-line-test.true
    (ap (λ (f : Fix). same f.identity x) (sym (c.behind-picture.view_is ∙ c.fix.ensures)) ∙ sym c.eq.ensures ∙ c.if-eq.true))

pub loop-line-preserved : goal.loop-line-preserved
loop-line-preserved c =
    let x = c.args.identity.now in
    record {
      here = omega (arith, c.loop-line.invariant.here);
      whole =
          past _ _ _ _ c.loop-line.invariant.whole
          (index-past c.args.picture.now.fixes c.args.lines.now x c.loop-line.line-index _ c.loop-line-test.true
          (ap (λ (f : Fix). same f.identity x) (sym (c.behind-picture.view_is ∙ c.fix.ensures)) ∙ sym c.eq.ensures ∙ c.if-eq.false));
    }

pub returns-clause-value : goal.returns-clause-value
returns-clause-value c = here _ _ _ c.loop-line.invariant.whole (index-end c.args.picture.now.fixes c.args.lines.now c.args.identity.now c.loop-line.line-index c.loop-line-test.false)
