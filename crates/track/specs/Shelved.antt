-- What is claimed of the fixes that wait (docs/REFERENCE.md, 'Track and listing'). The contracts of src/claims.rt name it; the proofs are in proofs/Shelved,
-- proofs/Placed and proofs/Early.
use Rattle.std.specs.Prelude.{◌≡◌, ℕ, ◌+◌, ◌≤◌, Bool, true, false, not, ◌&&◌, Option, Some, None, List, [], ◌∷◌, ◌++◌, map, length, eqb, leb}
use Rattle.std.specs.List.{filter, list_all}
use mathlib.Core.List.{Memᴰ, flat_map}
use Rattle.octets.specs.Bytes.{Bytes}
use Rattle.octets.specs.Masks.{bit}
use Rattle.record.specs.Formed.{well_formed}
use Rattle.engines.specs.Limits.{max_engine}
use Rattle.models.specs.Models.{state_of}
use Rattle.models.specs.Missing.{is_missing, first_missing}
use Rattle.track_memory.specs.Track.{Track, done}
use Rattle.track_shelf.specs.Layout.{max_waiting}
use Rattle.track_shelf.specs.Waiting.{Waiting, waits_for, is_reported_by}
use Rattle.track_shelf.specs.Both.{Both, both_formed, decode_both, on_both}
use Rattle.track.specs.Track.{left_by}
use Rattle.track.specs.Calls.{Call, report, summary, conviction, act, fresh, runs}

-- whatever is called, no fix waits for a model that has a summary
abbrev pub NoneWaitsInVain : Type 0
NoneWaitsInVain = (cs : List Call) →
    let b = decode_both (runs fresh cs).0 (runs fresh cs).1 in
    (both_formed (runs fresh cs).0 (runs fresh cs).1 ≡ true) × (list_all (λ w. is_missing (state_of w.model b.track.summaries)) b.shelf ≡ true)

-- so a summary of a model that has one, as each that settles a dispute or begins one, tries none
abbrev pub SettlesNone : Type 0
SettlesNone = (m w : List ℕ) (model : ℕ) → both_formed m w ≡ true → is_missing (state_of model (decode_both m w).track.summaries) ≡ false
    → filter (waits_for model) (decode_both m w).shelf ≡ []

-- a call takes a fix off the shelf: a summary of its model, or the conviction of its engine
abbrev pub takes_off : Call → Waiting → Bool
takes_off (report e r) w = false
takes_off (summary e model spec inputs) w = eqb w.model model
takes_off (conviction e) w = eqb w.engine e

-- a fix leaves the shelf by its trial or its engine's conviction only
abbrev pub StaysTillThen : Type 0
StaysTillThen = (c : Call) (b : Both) (w : Waiting) → Memᴰ w b.shelf → takes_off c w ≡ false → Memᴰ w (left_by b (act c b)).shelf

-- ---- which fixes wait after a call, in which order

-- the place that a record takes under this model, if it waits for one
abbrev pub place_under : Option ℕ → ℕ → List ℕ → List Waiting
place_under None e r = []
place_under (Some model) e r = record { model = model; engine = e; record_bytes = r } ∷ []

-- the place that a record takes where these summaries are held: under the first model, in its order, that has none
abbrev pub place_of : List (List ℕ) → ℕ → List ℕ → List Waiting
place_of ss e r = place_under (first_missing ss r) e r

-- the fixes that wait after a call that leaves these summaries. A report takes the place behind them. Of a summary those that wait for other models stay, in
-- their order; behind them go those that waited for its model and cite another that is missing, in theirs. Of a conviction those of other engines stay.
abbrev pub shelf_after : Call → List (List ℕ) → List Waiting → List Waiting
shelf_after (report e r) ss ws = ws ++ place_of ss e r
shelf_after (summary e model spec inputs) ss ws = filter (λ w. not (waits_for model w)) ws ++ flat_map (λ w. place_of ss w.engine w.record_bytes) (filter (waits_for model) ws)
shelf_after (conviction e) ss ws = filter (λ w. not (is_reported_by e w)) ws

-- a call that is not refused leaves these
abbrev pub WaitsInOrder : Type 0
WaitsInOrder = (c : Call) (m w : List ℕ) (b : Both) (n : ℕ) → both_formed m w ≡ true → act c (decode_both m w) ≡ done n b
    → b.shelf ≡ shelf_after c b.track.summaries (decode_both m w).shelf

-- ---- a fix that comes before its model, and one that comes right after

-- it is this model
abbrev pub is_for : ℕ → Option ℕ → Bool
is_for model None = false
is_for model (Some m) = eqb m model

-- a report, an engine with a record, that waits for this model: the engine may report, and the model is the first that the record cites and that is missing
abbrev pub is_early : ℕ → Track → ℕ × List ℕ → Bool
is_early model t x = well_formed x.1 && (leb x.0 max_engine && (not (bit t.convicted x.0) && is_for model (first_missing t.summaries x.1)))

abbrev pub reports_of : List (ℕ × List ℕ) → List Call
reports_of xs = map (λ x. report x.0 x.1) xs

-- whatever the track and the shelf are: reports that wait for a model leave, with its summary behind them, the very bytes that they leave right behind the summary
abbrev pub EarlyAsLate : Type 0
EarlyAsLate = (m w : List ℕ) (xs : List (ℕ × List ℕ)) (e model spec : ℕ) (inputs : List ℕ) → Bytes m → both_formed m w ≡ true
    → list_all (is_early model (decode_both m w).track) xs ≡ true → length (decode_both m w).shelf + length xs ≤ max_waiting
    → (on_both (act (summary e model spec inputs)) m w).answer ≡ 0
    → runs (m, w) (reports_of xs ++ (summary e model spec inputs ∷ [])) ≡ runs (m, w) (summary e model spec inputs ∷ reports_of xs)
