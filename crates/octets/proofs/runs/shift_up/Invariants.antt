use Prim.Native.Nat.{ℕ, ◌-◌, ◌≤◌}
use mathlib.Core.Path.{◌≡◌}
use mathlib.Core.List.{List, ◌++◌}
use lib.ListN.{length, take, drop}
use Rattle.octets.proofs.runs.shift_up.Given as goal

unfoldable pub moved : List ℕ → ℕ → List ℕ
moved s w = take w s ++ take (length s - w) s

abbrev pub invariant-loop-j : goal.invariant-loop-j
invariant-loop-j l = (l.w ≤ l.j) × (l.s ≡ take l.j l.initial.s ++ drop l.j (moved l.initial.s l.w))
