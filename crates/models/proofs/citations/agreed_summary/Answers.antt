use Rattle.std.proofs.Common.{ℕ, ◌≡◌, ap, ◌∙◌, refl, Bool, true, false, cond, eqb, Some, None}
use Rattle.std.specs.Bool.{then_some}
use Rattle.models.specs.Summary.{spec_of, summary_inputs}
use Rattle.models.specs.Cited.{model_cited, inputs_found}
use Rattle.models.specs.declared.summaries.Summary.{Summary}
use Rattle.models.proofs.citations.agreed_summary.Goals as goal

found : (b : Bool) (p : Summary) → inputs_found (then_some b p) ≡ cond b (Some (summary_inputs p.bytes.now)) None
found true p = refl
found false p = refl

pub returns-in-Agreed : goal.returns-in-Agreed
returns-in-Agreed c =
    let first = c.in-Agreed.first in
    let specs : c.then_some.result ≡ then_some (eqb (spec_of first.bytes.now) c.args.spec) first = c.then_some.ensures ∙ ap (λ (s : ℕ). then_some (eqb s c.args.spec) first) c.spec.ensures in
    ap inputs_found specs ∙ found (eqb (spec_of first.bytes.now) c.args.spec) first ∙ ap (model_cited c.args.spec) c.in-Agreed.ensures.state
