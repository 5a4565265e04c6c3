use Rattle.std.proofs.Common.{ap, ◌∙◌}
use Rattle.errors.specs.After.{after}
use Rattle.toastlagoon.proofs.tl_register_report.Goals as goal

pub returns : goal.returns
returns c = ap (λ n. after n c.report.new.memory) c.answer_number.ensures ∙ c.report.ensures
