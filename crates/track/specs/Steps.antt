-- No claim rests on this definition: it says what is known where a model has arrived.
use Rattle.std.specs.Prelude.{ℕ, ◌≡◌, Bool, true, not, ◌&&◌, ◌||◌, List, leb}
use Rattle.std.specs.List.{list_all}
use Rattle.octets.specs.Masks.{bit}
use Rattle.engines.specs.Limits.{max_engine}
use Rattle.record.specs.Formed as R
use Rattle.track_memory.specs.Memory.{well_formed, decode}
use Rattle.track_shelf.specs.Waiting.{Waiting, may_wait, waits_for}
use Rattle.track_shelf.specs.Memory.{decode_shelf}
use Rattle.track_shelf.specs.Steps.{Sound}

-- what an engine that is not convicted may report
abbrev pub may_report : ℕ → Waiting → Bool
may_report convicted w = R.well_formed w.record_bytes && (leb w.engine max_engine && not (bit convicted w.engine))

-- a fix may wait, or waits for this model and may be reported
abbrev pub may_wait_or : ℕ → ℕ → List (List ℕ) → Waiting → Bool
may_wait_or model convicted ss w = may_report convicted w && (waits_for model w || may_wait convicted ss w)

-- a track, and a shelf beside it whose fixes may wait, but those that wait for this model
pub record Arriving (model : ℕ) (m w : List ℕ) : Type 0 where
  pub track : well_formed m ≡ true
  pub shelf : Sound w
  pub fixes : list_all (may_wait_or model (decode m).convicted (decode m).summaries) (decode_shelf w) ≡ true
