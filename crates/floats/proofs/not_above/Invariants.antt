use Rattle.std.proofs.Common.{◌^◌, ◌<◌}
use Rattle.floats.proofs.not_above.Given as goal

abbrev pub invariant-loop-r : goal.invariant-loop-r
invariant-loop-r l = l.r < 2 ^ 54

abbrev pub decreases-loop-r : goal.decreases-loop-r
decreases-loop-r l = l.r
