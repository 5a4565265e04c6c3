use Rattle.session_text.proofs.Worked as W
use Rattle.session_text.proofs.claims.reasons_worked.Goals as goal

pub returns : goal.returns
returns c = W.reasons-worked
