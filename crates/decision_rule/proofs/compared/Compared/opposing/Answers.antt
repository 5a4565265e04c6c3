use Rattle.std.proofs.Common.{ap, ◌∙◌, length, arith, bit_and}
use Rattle.std.specs.Int.{bit_not, w128}
use Rattle.decision_rule.specs.Listed.{relations}
use Rattle.decision_rule.specs.Rows as R
use Rattle.decision_rule.proofs.Sets.{without-set}
use Rattle.decision_rule.proofs.compared.Compared.opposing.Goals as goal

pub returns : goal.returns
returns c =
    let xs = c.args.self.now.listed.items.now in
    let a = ap (λ w. bit_and w.disagreeing.word (bit_not w128 c.args.superseded.word)) c.row-row.ensures in
    let b = ap (λ w. bit_and (R.row xs c.args.i (length xs)).disagreeing.word (bit_not w128 w)) c.requires.1 in
    c.without.ensures ∙ a ∙ b ∙ without-set ((relations xs).disagrees c.args.i) (R.is_superseded xs) (length xs) (omega arith)
