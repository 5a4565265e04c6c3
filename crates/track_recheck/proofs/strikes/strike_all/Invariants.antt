use Rattle.track_arrange.specs.Blocks.{held}
use Rattle.track_recheck.specs.Recheck.{without_engine}
use Rattle.track_recheck.proofs.Rewriting.{Renewed}
use Rattle.track_recheck.proofs.Settled.{SettledFirst}
use Rattle.track_recheck.proofs.strikes.strike_all.Given as goal

abbrev pub invariant-loop-i : goal.invariant-loop-i
invariant-loop-i l = record {
  renewed : Renewed (without_engine l.engine) l.n l.i l.initial.t l.t;
  settled : SettledFirst (without_engine l.engine) (held l.n l.initial.t) l.settled l.i;
}
