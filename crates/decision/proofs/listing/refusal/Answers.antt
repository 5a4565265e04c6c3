use Rattle.std.proofs.Common.{sym, ap, ◌∙◌}
use Rattle.decision_rule.specs.Listed.{relations}
use Rattle.decision_rule.specs.Rows.{all}
use Rattle.decision.specs.Working.{finding}
use Rattle.decision.proofs.Findings.{unrefused, refusal-replaced, refusal-opposed}
use Rattle.decision.proofs.listing.refusal.Goals as goal

pub returns-then-not-is_refused : goal.returns-then-not-is_refused
returns-then-not-is_refused c =
    let l = c.args.settled.now.compared.listed.items.now in unrefused (relations l) (all l) c.args.i (sym c.is_refused.ensures ∙ c.if-not-is_refused.true)

pub returns-then-is_superseded : goal.returns-then-is_superseded
returns-then-is_superseded c =
    let l = c.args.settled.now.compared.listed.items.now in
    c.replaced.ensures ∙ ap finding (sym (refusal-replaced (relations l) (all l) c.args.i (sym c.is_superseded.ensures ∙ c.if-is_superseded.true)))

pub returns : goal.returns
returns c =
    let l = c.args.settled.now.compared.listed.items.now in
    c.opposed.ensures
    ∙ ap finding (sym (refusal-opposed (relations l) (all l) c.args.i (sym c.is_superseded.ensures ∙ c.if-is_superseded.false) (sym c.is_refused.ensures ∙ c.if-not-is_refused.false)))
