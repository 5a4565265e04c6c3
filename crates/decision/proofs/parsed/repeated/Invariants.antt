use Prim.Native.Nat.{◌-◌}
use mathlib.Core.Path.{◌≡◌}
use Rattle.std.specs.List.{list_any}
use Rattle.lists.specs.Ordered.{count_from, up_to}
use Rattle.decision_items.specs.Items.{same_identity}
use Rattle.decision.proofs.parsed.repeated.Given as goal

abbrev pub invariant-loop-j : goal.invariant-loop-j
invariant-loop-j l = list_any (same_identity l.s l.i) (up_to l.i) ≡ list_any (same_identity l.s l.i) (count_from l.j (l.i - l.j))
