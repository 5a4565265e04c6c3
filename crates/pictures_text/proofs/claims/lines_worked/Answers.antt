use Rattle.pictures_text.proofs.Worked as W
use Rattle.pictures_text.proofs.claims.lines_worked.Goals as goal

pub returns : goal.returns
returns c = W.lines-worked
