-- The layout of a track (docs/REFERENCE.md, 'Layouts'): the convicted engines, the counts of summaries and transmissions, a zero byte, and `contested`, which is
-- counted modulo 2^64; 256 places of summaries, ascending by engine and model, one for each pair; 8 transmissions of 3,078 bytes. Each part begins where the one
-- before it ends.
use Rattle.std.specs.Prelude.{ℕ, ◌+◌, ◌*◌}
use Rattle.models.specs.Summary.{summary_spec_at}
use Rattle.models.specs.Limits.{summaries_size}
use Rattle.track_transmission.specs.Layout.{transmission_size}
use Rattle.track_arrange.specs.Arranged.{max_transmissions}

-- one for each pair: a summary's key is its engine and its model
abbrev pub pair_size : ℕ
pair_size = summary_spec_at

-- ---- where each part begins

abbrev pub convicted_at : ℕ
convicted_at = 0

abbrev pub summary_count_at : ℕ
summary_count_at = convicted_at + 4

abbrev pub transmission_count_at : ℕ
transmission_count_at = summary_count_at + 2

abbrev pub zero_at : ℕ
zero_at = transmission_count_at + 1

abbrev pub contested_at : ℕ
contested_at = zero_at + 1

abbrev pub summaries_at : ℕ
summaries_at = contested_at + 8

abbrev pub transmissions_at : ℕ
transmissions_at = summaries_at + summaries_size

abbrev pub transmissions_size : ℕ
transmissions_size = max_transmissions * transmission_size

abbrev pub track_size : ℕ
track_size = transmissions_at + transmissions_size
