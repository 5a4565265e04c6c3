use Rattle.std.proofs.Common.{◌≡◌, ◌++◌, flat_map}
use Rattle.models.specs.Answers.{summary_places}
use Rattle.rooms_text.specs.Lines.{summary_line}
use Rattle.rooms_text.proofs.lacking.push_summaries.Given as goal

abbrev pub invariant-loop-summary : goal.invariant-loop-summary
invariant-loop-summary l = l.initial.out.items ++ flat_map (summary_line l.room) (summary_places l.initial.summary-iterator) ≡ l.out.items ++ flat_map (summary_line l.room) (summary_places l.summary-iterator)
