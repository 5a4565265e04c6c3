use Rattle.std.proofs.Common.{ap, ◌∙◌}
use Rattle.errors.specs.After.{after}
use Rattle.toastlagoon.proofs.tl_register_map.Goals as goal

pub returns : goal.returns
returns c = ap (λ n. after n c.map.new.out) c.value_or_number.ensures ∙ c.map.ensures.map
