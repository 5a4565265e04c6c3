-- The limit of engines (docs/REFERENCE.md, 'Register' among the layouts; the track has the same).
use Rattle.std.specs.Prelude.{ℕ}

-- the greatest engine number
abbrev pub max_engine : ℕ
max_engine = 31
