use Rattle.std.proofs.Common.{◌≤◌}
use Rattle.octets.specs.Alike.{alike}
use Rattle.octets.proofs.order.alike_bytes.Given as goal

abbrev pub invariant-loop-i : goal.invariant-loop-i
invariant-loop-i l = l.i ≤ alike l.a l.b
