use mathlib.Core.List.{List}
use Rattle.std.proofs.Common.{◌≡◌, ◌+◌, ◌*◌, ◌<◌, ℕ, length, get_or}
use Rattle.register_columns.proofs.gather.Given as goal

-- the bytes that were written, of a column that keeps its length
pub record Gathered (out rows : List ℕ) (n width j i : ℕ) : Type 0 where
  pub long : length out ≡ n
  pub each : (k : ℕ) → k < i → get_or out k 0 ≡ get_or rows (k * width + j) 0

abbrev pub invariant-loop-i : goal.invariant-loop-i
invariant-loop-i l = Gathered l.out l.rows (length l.initial.out) l.width l.j l.i
