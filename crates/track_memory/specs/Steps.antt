-- No claim rests on these definitions: they say what the code does with a summary.
use Rattle.std.specs.Prelude.{ℕ, cond, not, ◌&&◌, List, leb, length, take, drop}
use Rattle.tables.specs.Places.{holds, put_place}
use Rattle.models.specs.Limits.{max_summaries}
use Rattle.track_memory.specs.Layout.{pair_size}
use Rattle.track_memory.specs.Track.{Track, Transition, refused, done, with_summaries}

-- a summary put by its pair, with no recheck after it
abbrev pub with_pair : List ℕ → Track → Track
with_pair p s = with_summaries (put_place pair_size (λ v. drop pair_size p) (take pair_size p) s.summaries) s

abbrev pub put_pair : List ℕ → Track → Transition Track
put_pair p s =
    cond (not (holds pair_size (take pair_size p) s.summaries) && leb max_summaries (length s.summaries)) (refused 5) (done 0 (with_pair p s))
