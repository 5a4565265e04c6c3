use Prim.Native.Nat.{◌≤◌}
use mathlib.Core.Path.{◌≡◌}
use mathlib.Core.List.{map}
use lib.ListN.{length, take}
use Rattle.fixes.specs.Items.{fix_at}
use Rattle.track_transmission.specs.Layout.{max_standing}
use Rattle.track_normalize.proofs.deciding.list_standing.Given as goal

abbrev pub invariant-loop-i : goal.invariant-loop-i
invariant-loop-i l = record {
  listed : l.standing.items ≡ map (fix_at l.fixes) (take l.i-index l.ranked);
  few : length l.standing.items ≤ max_standing;
}
