use Rattle.rooms_text.proofs.Widths.{summary-width}
use Rattle.rooms_text.proofs.lacking.push_summaries.Goals as goal

pub push_line-requires : goal.push_line-requires
push_line-requires c = summary-width c.args.room c.in-Some.summary.bytes.now c.in-Some.summary.size
