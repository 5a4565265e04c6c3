use Rattle.std.proofs.Common.{◌≡◌, ◌++◌, flat_map}
use Rattle.rooms_text.specs.Lacking.{report_lines}
use Rattle.rooms_text.proofs.lacking.push_reports.Given as goal

abbrev pub invariant-loop-signed : goal.invariant-loop-signed
invariant-loop-signed l = l.initial.out.items ++ flat_map (report_lines l.room) l.initial.signed-iterator ≡ l.out.items ++ flat_map (report_lines l.room) l.signed-iterator
