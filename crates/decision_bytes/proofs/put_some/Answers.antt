use Rattle.std.proofs.Common.{rules, ◌∙◌, arith}
use Rattle.decision.proofs.Holding.{says-of}
use Rattle.decision_bytes.proofs.put_some.Goals as goal

pub returns : goal.returns
returns c =
    let items = c.args.items.now in
    let d = c.decide_some-decision.ensures in
    let says = says-of _ items.good d.items (d.long ∙ c.len.ensures) (λ i x h e. let q = d.held i x (omega (arith, d.long, h)) e in search rules) d.says in
    c.put_ordered.ensures says
