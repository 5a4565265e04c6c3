-- Which lists of numbers are bytes: what a slice has is, and a claim or a law about any list of numbers asks that it is.
-- Source: docs/REFERENCE.md, 'Layouts'.
use Rattle.std.specs.Prelude.{ℕ, ◌<◌, List, [], ◌∷◌}

-- every element is a byte
abbrev pub Bytes : List ℕ → Type 0
Bytes [] = Unit {0}
Bytes (b ∷ bs) = (b < 256) × Bytes bs
