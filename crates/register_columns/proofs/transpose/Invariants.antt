use Rattle.std.proofs.Common.{◌≡◌, ◌*◌, take}
use mathlib.Core.List.{flat_map}
use Rattle.lists.specs.Ordered.{up_to}
use Rattle.register_columns.specs.Transposed.{column}
use Rattle.register_columns.proofs.transpose.Given as goal

-- the columns so far
abbrev pub invariant-loop-j : goal.invariant-loop-j
invariant-loop-j l = take (l.j * l.rows) l.to ≡ flat_map (column l.rows l.width l.from) (up_to l.j)
