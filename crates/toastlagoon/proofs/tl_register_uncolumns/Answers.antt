use Rattle.std.proofs.Common.{ap, ◌∙◌}
use Rattle.errors.specs.After.{after}
use Rattle.toastlagoon.proofs.tl_register_uncolumns.Goals as goal

pub returns : goal.returns
returns c = ap (λ n. after n c.uncolumns.new.to) c.answer_number.ensures ∙ c.uncolumns.ensures
