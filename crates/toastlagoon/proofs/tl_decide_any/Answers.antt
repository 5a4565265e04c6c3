use Rattle.toastlagoon.proofs.tl_decide_any.Goals as goal

pub returns : goal.returns
returns c = c.decide_any.ensures
