-- The calls of a track (docs/REFERENCE.md, 'Operations'), on it and the shelf beside it.
use Rattle.std.specs.Prelude.{ℕ, List, [], ◌∷◌}
use Rattle.track_memory.specs.Track.{Transition}
use Rattle.track_memory.specs.Memory as M
use Rattle.track_shelf.specs.Memory.{fresh_shelf}
use Rattle.track_shelf.specs.Both.{Both, on_both}
use Rattle.track.specs.Track.{track_report, track_summary, track_conviction}

-- report(engine, record), summary(engine, model, spec, inputs), conviction(engine)
pub data Call : Type 0 where
  report : ℕ → List ℕ → Call
  summary : ℕ → ℕ → ℕ → List ℕ → Call
  conviction : ℕ → Call

abbrev pub act : Call → Both → Transition Both
act (report e r) = track_report e r
act (summary e model spec inputs) = track_summary e model spec inputs
act (conviction e) = track_conviction e

-- the bytes of a fresh track and a fresh shelf
abbrev pub fresh : List ℕ × List ℕ
fresh = (M.fresh, fresh_shelf)

-- the bytes of both after the calls of a list, first to last
unfoldable pub runs : List ℕ × List ℕ → List Call → List ℕ × List ℕ
runs p [] = p
runs p (c ∷ cs) = runs (on_both (act c) p.0 p.1).left cs
