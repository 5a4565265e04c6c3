use Rattle.models.specs.Answers.{summary_places}
use Rattle.track_recheck.specs.Recheck.{standing}
use Rattle.track_recheck.proofs.Rewriting.{Renewed}
use Rattle.track_recheck.proofs.rechecks.renew_all.Given as goal

abbrev pub invariant-loop-i : goal.invariant-loop-i
invariant-loop-i l = Renewed (standing (summary_places l.summaries)) l.n l.i l.initial.t l.t
