use Prim.Native.Nat.{◌-◌, ◌≤◌}
use mathlib.Core.Path.{◌≡◌}
use mathlib.Core.List.{◌++◌}
use lib.ListN.{length}
use Rattle.record.specs.Fields.{tags, tags_from, tag_count}
use Rattle.record.specs.Added.{added_tags, not_in}
use Rattle.decision_superset.proofs.added.Given as goal

-- at most i were added, and those that the rest adds follow
abbrev pub invariant-loop-i : goal.invariant-loop-i
invariant-loop-i l =
    let a = l.a.bytes.now in
    let b = l.b.bytes.now in
    (length l.added.items ≤ l.i) × (added_tags a b ≡ l.added.items ++ not_in (tags a) (tags_from b l.i (tag_count b - l.i)))
