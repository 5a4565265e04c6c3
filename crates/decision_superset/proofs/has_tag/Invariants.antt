use Prim.Native.Nat.{◌-◌}
use mathlib.Core.Path.{◌≡◌}
use Rattle.record.specs.Fields.{tags, tags_from, tag_count}
use Rattle.record.specs.Relations.{member}
use Rattle.decision_superset.proofs.has_tag.Given as goal

-- those from the i-th on decide
abbrev pub invariant-loop-i : goal.invariant-loop-i
invariant-loop-i l = let a = l.a.bytes.now in member l.t (tags a) ≡ member l.t (tags_from a l.i (tag_count a - l.i))
