use mathlib.Core.Path.{ap, ◌∙◌}
use Rattle.fixes.specs.Decided.{candidate_for}
use Rattle.fixes.proofs.item_of.Goals as goal

pub returns-clause-inputs : goal.returns-clause-inputs
returns-clause-inputs c = c.new.ensures.inputs

pub returns-clause-candidate : goal.returns-clause-candidate
returns-clause-candidate c = c.new.ensures.candidate ∙ ap (λ w. record (candidate_for c.args.report.bytes.now) { weight = w }) c.weight.ensures
