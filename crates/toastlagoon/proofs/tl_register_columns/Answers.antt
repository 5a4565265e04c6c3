use Rattle.std.proofs.Common.{ap, ◌∙◌}
use Rattle.errors.specs.After.{after}
use Rattle.toastlagoon.proofs.tl_register_columns.Goals as goal

pub returns : goal.returns
returns c = ap (λ n. after n c.columns.new.to) c.answer_number.ensures ∙ c.columns.ensures
