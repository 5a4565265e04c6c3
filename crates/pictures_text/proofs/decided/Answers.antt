use Rattle.std.proofs.Common.{rules, ◌∙◌, subst, arith}
use Rattle.decision.specs.Answer.{outcome}
use Rattle.decision.specs.Answered.{Says}
use Rattle.decision.proofs.Holding.{says-of}
use Rattle.pictures_text.proofs.decided.Goals as goal

pub returns : goal.returns
returns c =
    let items = c.in-Some.items in
    let d = c.decide_least.ensures in
    let says = says-of _ items.good d.items (d.long ∙ c.len.ensures) (λ i x h e. let q = d.held i x (omega (arith, d.long, h)) e in search rules) d.says in
    subst (λ b. Says {N = 4} c.decide_least.result (outcome b)) c.in-Some.ensures.same says
