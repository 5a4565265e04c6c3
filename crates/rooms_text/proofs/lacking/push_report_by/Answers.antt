use Rattle.rooms_text.proofs.Widths.{report-width}
use Rattle.rooms_text.proofs.lacking.push_report_by.Goals as goal

pub push_line-requires : goal.push_line-requires
push_line-requires c = report-width c.args.room c.args.report.bytes.now c.args.engine
