use Rattle.std.proofs.Common.{◌≡◌, drop}
use mathlib.Core.Bool.{◌&&◌}
use lib.Dec.{eqb}
use Rattle.octets.specs.Runs.{all_zero}
use Rattle.octets.proofs.runs.is_zero_from.Given as goal

abbrev pub invariant-loop-i : goal.invariant-loop-i
invariant-loop-i l = all_zero (drop l.at l.s) ≡ (eqb l.any 0 && all_zero (drop l.i l.s))
