use Prim.Native.Nat.{◌-◌}
use mathlib.Core.Path.{◌≡◌}
use Rattle.std.specs.List.{list_any}
use Rattle.lists.specs.Ordered.{count_from, up_to}
use Rattle.decision.specs.Answer.{bad_at}
use Rattle.decision.proofs.parsed.any_bad.Given as goal

abbrev pub invariant-loop-i : goal.invariant-loop-i
invariant-loop-i l = list_any (bad_at l.s) (up_to l.n) ≡ list_any (bad_at l.s) (count_from l.i (l.n - l.i))
