use Rattle.std.proofs.Common.{ap, ◌∙◌}
use Rattle.errors.specs.After.{after}
use Rattle.toastlagoon.proofs.tl_register_session.Goals as goal

pub returns : goal.returns
returns c = ap (λ n. after n (c.perform_on.new.memory, c.perform_on.new.out)) c.performed_number.ensures ∙ c.perform_on.ensures.session
