use Rattle.std.proofs.Common.{◌≡◌, ◌-◌, ◌≤◌, length, drop}
use mathlib.Core.Bool.{◌&&◌}
use Rattle.octets.specs.Runs.{all_zero}
use Rattle.octets.proofs.runs.is_zero.Given as goal

abbrev pub invariant-loop-i : goal.invariant-loop-i
invariant-loop-i l = (l.i ≤ length l.s) × (all_zero l.s ≡ (all_zero l.any && all_zero (drop l.i l.s)))

abbrev pub decreases-loop-i : goal.decreases-loop-i
decreases-loop-i l = l.n - l.i
