use Rattle.rooms_text.proofs.Widths.{conviction-width}
use Rattle.rooms_text.proofs.lacking.push_conviction_of.Goals as goal

pub push_line-requires : goal.push_line-requires
push_line-requires c = conviction-width c.args.room c.args.engine
