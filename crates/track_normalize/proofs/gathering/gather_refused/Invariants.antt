use Prim.Native.Nat.{◌+◌, ◌≤◌}
use mathlib.Core.Path.{◌≡◌}
use mathlib.Core.List.{map}
use lib.ListN.{length, take}
use Rattle.track_transmission.specs.Held.{fix_of}
use Rattle.track_normalize.specs.Normal.{gather_all}
use Rattle.track_normalize.proofs.gathering.gather_refused.Given as goal

abbrev pub invariant-loop-refusal : goal.invariant-loop-refusal
invariant-loop-refusal l = (l.gathered.items ≡ gather_all l.initial.gathered.items (map fix_of (take l.refusal-index l.refused))) × (length l.gathered.items ≤ length l.initial.gathered.items + l.refusal-index)
