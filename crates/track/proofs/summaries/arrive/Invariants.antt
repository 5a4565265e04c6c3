use Rattle.track_memory.specs.Memory.{decode}
use Rattle.track_shelf.specs.Memory.{decode_shelf}
use Rattle.std.proofs.Common.{not}
use Rattle.std.specs.List.{filter}
use Rattle.track_shelf.specs.Waiting.{waits_for}
use Rattle.track.proofs.Trying.{Trying}
use Rattle.track.proofs.summaries.arrive.Given as goal

abbrev pub invariant-loop-fix : goal.invariant-loop-fix
invariant-loop-fix l =
    Trying (decode l.fn.memory).convicted (record { track = decode l.fn.memory; shelf = filter (λ w. not (waits_for l.fn.model w)) (decode_shelf l.fn.shelf) }) l.all l.fix-index l.memory l.shelf
