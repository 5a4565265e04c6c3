use Rattle.track_shelf.proofs.Marks.{Marking}
use Rattle.track_shelf.proofs.stated.Stated.of.Given as goal

abbrev pub invariant-loop-summary : goal.invariant-loop-summary
invariant-loop-summary l = Marking l.summaries l.summary-index l.has
