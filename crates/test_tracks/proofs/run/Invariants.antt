use Rattle.std.proofs.Common.{◌≡◌, ◌-◌, length}
use Rattle.track_memory.specs.Layout.{track_size}
use Rattle.test_tracks.proofs.run.Given as goal

abbrev pub invariant-loop-i : goal.invariant-loop-i
invariant-loop-i g l = track_size ≡ length l.memory
