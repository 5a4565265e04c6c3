use Rattle.toastlagoon.proofs.tl_decide.Goals as goal

pub returns : goal.returns
returns c = c.decide.ensures
