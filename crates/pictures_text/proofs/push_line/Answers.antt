use Rattle.pictures_text.proofs.Items.{none-bad}
use Rattle.pictures_text.proofs.push_line.Goals as goal

pub decided-requires-clause-good : goal.decided-requires-clause-good
decided-requires-clause-good c = rw c.write_items.ensures (none-bad c.args.case c.requires)
