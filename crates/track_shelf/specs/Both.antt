-- A track and the shelf beside it in memory (docs/REFERENCE.md, 'Layouts'): which bytes they are, what they hold, and an operation on the bytes of both.
use Rattle.std.specs.Prelude.{ℕ, Bool, cond, ◌&&◌, List}
use Rattle.errors.specs.After.{After, after}
use Rattle.track_memory.specs.Track.{Track, Transition, refused, done}
use Rattle.track_memory.specs.Memory.{convicted_in, summaries_in, well_formed, decode, encode}
use Rattle.track_shelf.specs.Waiting.{Waiting}
use Rattle.track_shelf.specs.Memory.{shelf_formed, decode_shelf, encode_shelf}

-- a track, and the fixes that wait beside it, in their order
pub record Both : Type 0 where
  pub track : Track
  pub shelf : List Waiting

-- the bytes of a track and of a shelf: nothing waits for a model that has a summary
abbrev pub both_formed : List ℕ → List ℕ → Bool
both_formed m w = well_formed m && shelf_formed (convicted_in m) (summaries_in m) w

abbrev pub decode_both : List ℕ → List ℕ → Both
decode_both m w = record { track = decode m; shelf = decode_shelf w }

abbrev pub encode_both : Both → List ℕ × List ℕ
encode_both b = (encode b.track, encode_shelf b.shelf)

-- a refusal answers its number, and changes no byte of either
abbrev pub commit_both : List ℕ → List ℕ → Transition Both → After (List ℕ × List ℕ)
commit_both m w (refused n) = after n (m, w)
commit_both m w (done n b) = after n (encode_both b)

-- 1 where they are no track and its shelf
unfoldable pub on_both : (Both → Transition Both) → List ℕ → List ℕ → After (List ℕ × List ℕ)
on_both f m w = cond (both_formed m w) (commit_both m w (f (decode_both m w))) (after 1 (m, w))
