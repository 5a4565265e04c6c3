use Rattle.pictures_text.proofs.Claimed.{in-number}
use Rattle.pictures_text.proofs.claims.they_are_numbered.Goals as goal

pub returns : goal.returns
returns c = in-number
