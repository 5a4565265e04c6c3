-- Rows of bytes, one after another, turned so that like bytes of all rows stand together: first the first byte of each row, then the second of each, and so on.
-- Source: docs/REFERENCE.md, 'Columns of a register'.
use Rattle.std.specs.Prelude.{ℕ, ◌+◌, ◌*◌, get_or}
use mathlib.Core.List.{List, map, flat_map}
use Rattle.lists.specs.Ordered.{up_to}

-- byte j of each row, of rows of so many bytes
abbrev pub column : ℕ → ℕ → List ℕ → ℕ → List ℕ
column rows width l j = map (λ i. get_or l (i * width + j) 0) (up_to rows)

abbrev pub transposed : ℕ → ℕ → List ℕ → List ℕ
transposed rows width l = flat_map (column rows width l) (up_to width)
