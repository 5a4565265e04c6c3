use Rattle.std.proofs.Common.{ap, ◌∙◌}
use Rattle.errors.specs.After.{after}
use Rattle.toastlagoon.proofs.tl_track_conviction.Goals as goal

pub returns : goal.returns
returns c = ap (λ n. after n (c.conviction.new.memory, c.conviction.new.shelf)) c.answer_number.ensures ∙ c.conviction.ensures
