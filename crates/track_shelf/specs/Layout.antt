-- The layout of a shelf (docs/REFERENCE.md, 'Layouts'): how many fixes wait, then 64 places: the model that a fix waits for, the engine that reported it, and its
-- record. Each part begins where the one before it ends.
use Rattle.std.specs.Prelude.{ℕ, ◌+◌, ◌*◌}
use Rattle.record.specs.Layout.{record_size}

-- the most fixes that wait beside a track
abbrev pub max_waiting : ℕ
max_waiting = 64

-- ---- a place

abbrev pub model_at : ℕ
model_at = 0

abbrev pub engine_at : ℕ
engine_at = model_at + 1

abbrev pub record_at : ℕ
record_at = engine_at + 1

abbrev pub place_size : ℕ
place_size = record_at + record_size

-- ---- the whole

abbrev pub count_at : ℕ
count_at = 0

abbrev pub places_at : ℕ
places_at = count_at + 1

abbrev pub shelf_size : ℕ
shelf_size = places_at + max_waiting * place_size
