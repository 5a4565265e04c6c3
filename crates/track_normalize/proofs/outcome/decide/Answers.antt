use Rattle.std.proofs.Common.{rules, arith}
use Rattle.fixes.proofs.Showing.{shows-each}
use Rattle.track_normalize.proofs.outcome.decide.Goals as goal

pub returns : goal.returns
returns c =
    let d = c.decide_few.ensures in
    shows-each c.args.fixes.now d.items d.long (λ i x h e. let q = d.held i x (omega (arith, d.long, h)) e in search rules) d.says
