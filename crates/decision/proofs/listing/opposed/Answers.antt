use Rattle.std.proofs.Common.{sym, ◌∙◌}
use Rattle.decision_rule.specs.Listed.{relations}
use Rattle.decision_rule.specs.Rows.{all}
use Rattle.decision.proofs.Findings.{none-opposes, one-opposes}
use Rattle.decision.proofs.listing.opposed.Goals as goal

pub returns-in_err-kept : goal.returns-in_err-kept
returns-in_err-kept c =
    let l = c.args.settled.now.compared.listed.items.now in
    c.from_residual.ensures ∙ none-opposes (relations l) (all l) c.args.i _ (sym c.opposing.ensures.first ∙ c.in_err-kept.was)

pub returns : goal.returns
returns c =
    let l = c.args.settled.now.compared.listed.items.now in
    one-opposes (relations l) (all l) c.args.i _ _ _ (sym c.opposing.ensures.first ∙ c.in_ok-kept.was) c.chi_square.ensures
