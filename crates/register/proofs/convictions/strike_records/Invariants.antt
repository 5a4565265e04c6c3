use Rattle.tables.proofs.Striking.{Left}
use Rattle.register.proofs.Striking.{records_without}
use Rattle.register.proofs.convictions.strike_records.Given as goal

abbrev pub invariant-loop-i : goal.invariant-loop-i
invariant-loop-i l = Left (records_without l.engine) l.n l.initial.t l.t l.i l.j
