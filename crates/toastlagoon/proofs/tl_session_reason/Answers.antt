use Rattle.toastlagoon.proofs.tl_session_reason.Goals as goal

pub returns : goal.returns
returns c = c.reason.ensures
