use Prim.Native.Nat.{◌+◌, ◌≤◌}
use mathlib.Core.Path.{◌≡◌}
use lib.ListN.{length, take}
use Rattle.track_normalize.specs.Normal.{gather_all}
use Rattle.track_normalize.proofs.gathering.gather_all.Given as goal

abbrev pub invariant-loop-fix : goal.invariant-loop-fix
invariant-loop-fix l = (l.gathered.items ≡ gather_all l.initial.gathered.items (take l.fix-index l.fixes)) × (length l.gathered.items ≤ length l.initial.gathered.items + l.fix-index)
