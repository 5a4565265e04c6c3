use Rattle.rooms_text.proofs.lines.LackingReportAppend.append_to.Goals as goal

pub returns : goal.returns
returns c = c.push_report.ensures
