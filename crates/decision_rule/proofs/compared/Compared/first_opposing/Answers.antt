use Rattle.std.proofs.Common.{ap, ◌∙◌, length}
use Rattle.decision_rule.specs.Listed.{relations}
use Rattle.decision_rule.specs.First.{foremost_of}
use Rattle.decision_rule.specs.Rows as R
use Rattle.decision_rule.proofs.Known.{members}
use Rattle.decision_rule.proofs.compared.Compared.first_opposing.Goals as goal

pub returns-clause-first : goal.returns-clause-first
returns-clause-first c =
    let l = c.args.self.now.listed.items.now in
    c.lowest.ensures.first ∙ ap (foremost_of (relations l).lower) (members (R.opposes l c.args.i) (length l) c.opposing.ensures)
