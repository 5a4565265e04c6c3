-- No claim rests on these definitions: they say what a table of tests holds at each index.
use Rattle.std.specs.Prelude.{Bool, false, List, ℕ, get_or}

-- what a table of tests says of an index
abbrev pub marked : List Bool → ℕ → Bool
marked m i = get_or m i false

abbrev pub itself : ℕ → ℕ
itself i = i
