use Rattle.std.proofs.Common.{◌-◌, ◌≤◌}
use Rattle.octets.specs.Alike.{alike}
use Rattle.octets.proofs.order.alike_to_end.Given as goal

abbrev pub invariant-loop-i : goal.invariant-loop-i
invariant-loop-i l = l.i ≤ alike l.a l.b

abbrev pub decreases-loop-i : goal.decreases-loop-i
decreases-loop-i l = l.n - l.i
