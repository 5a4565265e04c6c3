use Rattle.std.proofs.Common.{◌≡◌, ◌-◌, ◌*◌}
use Rattle.record.specs.Rises.{rises_from}
use Rattle.record.proofs.formed.rises.Given as goal

abbrev pub invariant-loop-k : goal.invariant-loop-k
invariant-loop-k l = l.bits ≡ rises_from l.r (2 * l.k) (23 - 2 * l.k)
