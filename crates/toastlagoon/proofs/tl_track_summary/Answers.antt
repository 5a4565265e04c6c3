use Rattle.std.proofs.Common.{ap, ◌∙◌}
use Rattle.errors.specs.After.{after}
use Rattle.toastlagoon.proofs.tl_track_summary.Goals as goal

pub returns : goal.returns
returns c = ap (λ n. after n (c.summary.new.memory, c.summary.new.shelf)) c.answer_number.ensures ∙ c.summary.ensures
