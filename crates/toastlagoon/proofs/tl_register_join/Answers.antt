use Rattle.std.proofs.Common.{ap, ◌∙◌}
use Rattle.errors.specs.After.{after}
use Rattle.toastlagoon.proofs.tl_register_join.Goals as goal

pub returns : goal.returns
returns c = ap (λ n. after n c.join.new.memory) c.answer_number.ensures ∙ c.join.ensures
