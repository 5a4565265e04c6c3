use Rattle.std.proofs.Common.{◌∙◌, length, arith}
use Rattle.decision_rule.specs.Rows as R
use Rattle.decision_rule.proofs.Sets.{asked}
use Rattle.decision_rule.proofs.settled.Settled.is_refused.Goals as goal

pub returns : goal.returns
returns c =
    let l = c.args.self.now.compared.listed.items.now in
    c.contains.ensures ∙ asked (R.is_refused l) (length l) c.args.i c.args.self.now.are_refused c.requires (omega arith)
