use Rattle.std.proofs.Common.{ap, ◌∙◌}
use Rattle.errors.specs.After.{after}
use Rattle.toastlagoon.proofs.tl_register_summary.Goals as goal

pub returns : goal.returns
returns c = ap (λ n. after n c.summary.new.memory) c.answer_number.ensures ∙ c.summary.ensures
