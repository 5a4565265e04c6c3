use Rattle.tables.proofs.Striking.{Left}
use Rattle.models.proofs.Summarized.{summaries_without}
use Rattle.models.proofs.strikes.strike_summaries.Given as goal

abbrev pub invariant-loop-i : goal.invariant-loop-i
invariant-loop-i l = Left (summaries_without l.engine) l.n l.initial.t l.t l.i l.j
