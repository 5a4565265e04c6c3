use Rattle.std.proofs.Common.{sym, subst}
use Rattle.decision.specs.Answer.{outcome}
use Rattle.decision.specs.Answered.{Says}
use Rattle.decision.specs.Sorted.{sorted_outcome}
use Rattle.decision_bytes.specs.Orders.{outcome_in}
use Rattle.decision_bytes.proofs.put_ordered.Goals.{in-Given, in-Identity}
use Rattle.decision_bytes.proofs.put_ordered.Goals as goal

pub returns : goal.returns
returns g c w =
    let s = c.args.items.now.bytes.now in
    let says : Says c.match-order.decision (outcome_in c.args.order s) = elim c.match-order.branch [
      | in-Given v ↦ subst (λ o. Says c.match-order.decision (outcome_in o s)) (sym v.in-Given.is) (subst (λ d. Says d (outcome s)) (sym v.decision-is) w)
      | in-Identity v ↦ subst (λ o. Says c.match-order.decision (outcome_in o s)) (sym v.in-Identity.is) (subst (λ d. Says d (sorted_outcome s)) (sym v.decision-is) (v.sort_by_identity.ensures w))
    ] in
    c.put_decision.ensures _ says
