use Rattle.std.proofs.Common.{map, take}
use Rattle.track_arrange.specs.Blocks.{block_of}
use Rattle.track_arrange.proofs.Placing.{Placed}
use Rattle.track_arrange.proofs.Moves.write_anew.Given as goal

abbrev pub invariant-loop-i : goal.invariant-loop-i
invariant-loop-i l = Placed l.initial.t l.t (map (block_of l.self.n l.initial.t l.self.further.now) (take l.i l.self.order.now)) l.i
