use Prim.Native.Nat.{◌≤◌}
use mathlib.Core.Path.{◌≡◌}
use mathlib.Core.List.{map}
use lib.ListN.{length}
use Rattle.track_transmission.specs.Held.{held_in}
use Rattle.track_normalize.specs.Signed.{is_signed}
use Rattle.track_recheck.specs.Recheck.{unsigned}
use Rattle.track_recheck.proofs.Standing.{left_of}
use Rattle.track_recheck.proofs.strikes.gather_without.Given as goal

abbrev pub invariant-loop-k : goal.invariant-loop-k
invariant-loop-k l = record {
  left : l.left.items ≡ left_of is_signed (map (unsigned l.engine) (held_in l.block)) l.k;
  few : length l.left.items ≤ l.k;
}
