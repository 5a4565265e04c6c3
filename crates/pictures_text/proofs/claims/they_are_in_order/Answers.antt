use Rattle.pictures_text.proofs.Claimed.{in-order}
use Rattle.pictures_text.proofs.claims.they_are_in_order.Goals as goal

pub returns : goal.returns
returns c = in-order
