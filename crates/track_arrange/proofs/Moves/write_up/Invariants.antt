use Rattle.std.proofs.Common.{map, length, drop}
use Rattle.track_arrange.specs.Blocks.{block_of}
use Rattle.track_arrange.proofs.Placing.{Lifted}
use Rattle.track_arrange.proofs.Moves.write_up.Given as goal

abbrev pub invariant-loop-i : goal.invariant-loop-i
invariant-loop-i l = Lifted l.initial.t l.t (map (block_of l.self.n l.initial.t l.self.further.now) (drop l.i l.self.order.now)) l.i (length l.self.order.now)
