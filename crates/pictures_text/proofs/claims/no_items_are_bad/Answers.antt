use Rattle.pictures_text.proofs.Items.{none-bad}
use Rattle.pictures_text.proofs.claims.no_items_are_bad.Goals as goal

pub returns : goal.returns
returns c = none-bad
