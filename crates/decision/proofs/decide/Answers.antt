use Rattle.std.proofs.Common.{rules, ◌≡◌, ◌/◌, refl, subst, ap, ◌∙◌, arith, length}
use Rattle.std.specs.Prelude.{Some}
use Rattle.decision_items.specs.Layout.{item_size, max_items}
use Rattle.decision.specs.Answer.{decided_arrays}
use Rattle.decision.specs.Answered.{answered}
use Rattle.decision.proofs.Answering.{answers, none-bad, says-alone}
use Rattle.decision.proofs.Holding.{says-of}
use Rattle.decision.proofs.decide.Goals as goal

pub returns-in_err-items : goal.returns-in_err-items
unfolding decided_arrays
returns-in_err-items c = ap answered c.from_residual.ensures ∙ (rw (none-bad c.args.s.now c.in_err-items.ensures.good) refl)

pub returns-then-n-le1 : goal.returns-then-n-le1
returns-then-n-le1 c =
    let items = c.in_ok-items.items in
    let d = c.decide_alone.ensures in
    let says = says-alone items.bytes.now c.len-n.result _ (omega (arith, items.whole, c.len-n.ensures)) c.if-n-le1.true items.good d.ranked d.dominated d.refusals in
    subst (λ b. answered (Some c.decide_alone.result) ≡ decided_arrays b) c.in_ok-items.ensures.same (answers {N = max_items} items.bytes.now _ items.good says)

pub returns : goal.returns
returns c =
    let items = c.in_ok-items.items in
    let d = c.decide_each.ensures in
    let long : length d.items ≡ length items.bytes.now / item_size = d.long ∙ c.len-n.ensures in
    let says = says-of items.bytes.now items.good d.items long (λ i x h e. let q = d.held i x (omega (arith, d.long, h)) e in search rules) d.says in
    subst (λ b. answered (Some c.decide_each.result) ≡ decided_arrays b) c.in_ok-items.ensures.same (answers {N = max_items} items.bytes.now _ items.good says)
