use Prim.Native.Nat.{◌-◌}
use mathlib.Core.Path.{◌≡◌}
use Rattle.record.specs.Fields.{tag_count, tags_from}
use Rattle.record.specs.Formed.{ascends, ascends_from}
use Rattle.record_values.proofs.faults.tags_ascend.Given as goal

abbrev pub invariant-loop-i : goal.invariant-loop-i
invariant-loop-i l = ascends (tags_from l.r 0 (tag_count l.r)) ≡ ascends_from l.last (tags_from l.r l.i (tag_count l.r - l.i))
