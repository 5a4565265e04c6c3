-- The limit of summaries, and the size of a table of them (docs/REFERENCE.md, 'Register' among the layouts; the track has the same).
use Rattle.std.specs.Prelude.{ℕ, ◌*◌}
use Rattle.models.specs.Summary.{summary_size}

abbrev pub max_summaries : ℕ
max_summaries = 256

abbrev pub summaries_size : ℕ
summaries_size = max_summaries * summary_size
