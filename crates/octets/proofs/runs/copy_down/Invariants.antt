use Prim.Native.Nat.{ℕ, ◌+◌}
use mathlib.Core.Path.{◌≡◌}
use mathlib.Core.List.{List, ◌++◌}
use lib.ListN.{take, drop}
use Rattle.octets.proofs.runs.copy_down.Given as goal

unfoldable pub moved : List ℕ → ℕ → ℕ → ℕ → List ℕ
moved s from to w = take to s ++ (take w (drop from s) ++ drop (to + w) s)

abbrev pub invariant-loop-k : goal.invariant-loop-k
invariant-loop-k l = l.s ≡ take (l.to + l.k) (moved l.initial.s l.from l.to l.w) ++ drop (l.to + l.k) l.initial.s
