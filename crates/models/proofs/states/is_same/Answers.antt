use mathlib.Core.Path.{◌≡◌, sym, ◌∙◌}
use borrow.Author.Tests.{eq-eqb}
use Rattle.octets.specs.Order.{same}
use Rattle.models.specs.Summary.{spec_of, summary_inputs}
use Rattle.models.proofs.states.is_same.Goals as goal

pub returns-then-spec : goal.returns-then-spec
returns-then-spec c =
    let p = c.args.p.bytes.now in
    let q = c.args.q.bytes.now in
    let specs : spec_of p ≡ spec_of q = sym c.spec.ensures ∙ c.if-spec.true ∙ c.spec-2.ensures in
    let inputs : c.equal.result ≡ same (summary_inputs p) (summary_inputs q) = rw (← c.inputs.ensures.value, ← c.inputs-then-spec.ensures.value) c.equal.ensures in
    rw (eq-eqb (spec_of p) (spec_of q) specs) inputs
