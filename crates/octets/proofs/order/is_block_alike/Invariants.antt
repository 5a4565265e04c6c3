use Rattle.std.proofs.Common.{◌≡◌, ◌+◌, ◌*◌, ◌≤◌, true}
use Rattle.octets.specs.Alike.{alike}
use Rattle.octets.proofs.order.is_block_alike.Given as goal

abbrev pub invariant-loop-k : goal.invariant-loop-k
invariant-loop-k l = l.is_alike ≡ true → l.at + 8 * l.k ≤ alike l.a l.b
