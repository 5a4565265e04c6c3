use Rattle.std.proofs.Common.{◌≡◌, ap, ◌∙◌, subst}
use native.Mathlib.Omega.{arith}
use Rattle.decision.specs.Answer.{indices}
use Rattle.octets.specs.Put.{Put}
use Rattle.decision_bytes.specs.Offsets.{refusals_at, list_bytes}
use Rattle.decision_bytes.proofs.Parts.{answer-put}
use Rattle.decision_bytes.proofs.put_decision.Goals as goal

pub returns : goal.returns
returns g c o w =
    let ends : c.put_indices-third.result ≡ refusals_at = omega (arith, c.put_indices-third.ensures.0, c.put_indices-second.ensures.0) in
    let p = subst (λ l. Put c.put_indices-third.new.out c.put_indices-third.result (list_bytes l) c.put_refusals.result c.put_refusals.new.out) (c.deref-3.ensures.0 ∙ w.refusals) c.put_refusals.ensures.1 in
    answer-put o c.requires.zeros (ap indices (c.deref.ensures.0 ∙ w.ranked)) (ap indices (c.deref-2.ensures.0 ∙ w.dominated)) c.put_indices-second.ensures.1 c.put_indices-third.ensures.1 p ends
    (omega (arith, ends, c.put_refusals.ensures.0))
