use Rattle.std.proofs.Common.{◌≡◌, ◌-◌, length}
use Rattle.test_replay.proofs.main.Given as goal

abbrev pub invariant-loop-i : goal.invariant-loop-i
invariant-loop-i l = length l.buffer ≡ 65536
