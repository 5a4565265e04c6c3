use Rattle.std.proofs.Common.{ap, ◌∙◌}
use Rattle.errors.specs.After.{after}
use Rattle.toastlagoon.proofs.tl_register_lacks.Goals as goal

pub returns : goal.returns
returns c = ap (λ n. after n c.lacks.new.out) c.answer_number.ensures ∙ c.lacks.ensures
