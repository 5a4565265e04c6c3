-- The layout of a refusal in a decision's bytes.
-- Source: docs/REFERENCE.md, 'Answer of a decision'.
use Rattle.std.specs.Prelude.{ℕ, ◌+◌}

-- whether there is a chi-square, and its bits
abbrev pub chi_square_size : ℕ
chi_square_size = 1 + 8

-- the refused, the kept, whether it is superseded, and the chi-square
abbrev pub refusal_size : ℕ
refusal_size = 3 + chi_square_size
