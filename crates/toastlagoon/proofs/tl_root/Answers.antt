use Rattle.toastlagoon.proofs.tl_root.Goals as goal

pub returns : goal.returns
returns c = c.root.ensures
