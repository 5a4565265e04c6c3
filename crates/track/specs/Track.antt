-- What the operations of a track do to it and to the shelf beside it (docs/REFERENCE.md, 'Operations' and 'Track and listing'; the Rust's `model`, `fix`,
-- `convict`, `recheck` and what stands above `merge`).
use Rattle.std.specs.Prelude.{ℕ, ◌+◌, ◌%◌, ◌^◌, Bool, true, false, cond, not, ◌&&◌, ◌||◌, List, [], ◌∷◌, ◌++◌, Option, Some, None, length, take, drop, ◌==◌, nat_le, nat_lt}
use Rattle.std.specs.List.{filter}
use Rattle.octets.specs.Masks.{bit, with_bit}
use Rattle.tables.specs.Places.{holds, put_place}
use Rattle.record.specs.Layout.{max_model}
use Rattle.record.specs.Formed.{well_formed}
use Rattle.models.specs.Summary.{inputs_size, summary_of}
use Rattle.models.specs.Models.{State, missing, agreed, disputed, state_of, counts}
use Rattle.models.specs.Missing.{first_missing}
use Rattle.models.specs.Identity.{cited_inputs, identity_of}
use Rattle.engines.specs.Limits.{max_engine}
use Rattle.models.specs.Limits.{max_summaries}
use Rattle.fixes.specs.Fix.{Fix}
use Rattle.track_merge.specs.Merged.{Step, merged_number, merged}
use Rattle.track_memory.specs.Layout.{pair_size}
use Rattle.track_memory.specs.Track.{Track, Transition, refused, done, with_summaries}
use Rattle.track_recheck.specs.Recheck.{recheck, strike_engine}
use Rattle.track_shelf.specs.Layout.{max_waiting}
use Rattle.track_shelf.specs.Waiting.{Waiting, waits_for, is_reported_by}
use Rattle.track_shelf.specs.Both.{Both}

-- ---- report

-- the fix of a record that an engine reports
abbrev pub reported_fix : ℕ → List ℕ → Track → Fix
reported_fix e r s = record { identity = identity_of s.summaries r; record_bytes = r; inputs = cited_inputs s.summaries r; signers = with_bit 0 e }

-- `contested` is counted modulo 2^64
abbrev pub stepped : Step → Track → Track
stepped x s = record { convicted = s.convicted; contested = (s.contested + x.entered) % 2 ^ 64; summaries = s.summaries; transmissions = x.left }

-- a record none of whose models is missing: 7 where a cited model is disputed or of another spec, else Changed, Contested, Duplicate or Dropped
abbrev pub take_cited : ℕ → List ℕ → Track → Transition Track
take_cited e r s =
    let x = merged (reported_fix e r s) s.transmissions in
    cond (counts s.summaries r) (done (merged_number x.answer) (stepped x s)) (refused 7)

-- what is done to a track beside a shelf that it leaves
abbrev pub beside : List Waiting → Transition Track → Transition Both
beside ws (refused n) = refused n
beside ws (done n t) = done n (record { track = t; shelf = ws })

-- a fix waits at the shelf's end: 24, or 13 where 64 wait
abbrev pub put_last : Waiting → Both → Transition Both
put_last w b = cond (nat_le max_waiting (length b.shelf)) (refused 13) (done 24 (record { track = b.track; shelf = b.shelf ++ (w ∷ []) }))

-- it waits for the model that is given, where one is
abbrev pub take_under : Option ℕ → ℕ → List ℕ → Both → Transition Both
take_under None e r b = beside b.shelf (take_cited e r b.track)
take_under (Some model) e r b = put_last (record { model = model; engine = e; record_bytes = r }) b

-- a record waits for the first model, in its order, that has no summary
abbrev pub take_record : ℕ → List ℕ → Both → Transition Both
take_record e r b = take_under (first_missing b.track.summaries r) e r b

-- 2, 3 or 4
abbrev pub track_report : ℕ → List ℕ → Both → Transition Both
track_report e r b =
    cond (nat_lt max_engine e) (refused 2) (cond (not (well_formed r)) (refused 3) (cond (bit b.track.convicted e) (refused 4) (take_record e r b)))

-- a refusal leaves the track and its shelf as they are
abbrev pub left_by : Both → Transition Both → Both
left_by b (refused n) = b
left_by b (done n c) = c

-- ---- summary

abbrev pub is_disputed : State → Bool
is_disputed missing = false
is_disputed (agreed x h) = false
is_disputed disputed = true

-- a model's summaries are disputed, and were not
abbrev pub becomes_disputed : ℕ → List (List ℕ) → List (List ℕ) → Bool
becomes_disputed model before now = not (is_disputed (state_of model before)) && is_disputed (state_of model now)

-- there is one for each pair, so the later takes the place of the earlier. A model that its only signer changes is not disputed, and then nothing is checked again.
abbrev pub put_summary : ℕ → List ℕ → Track → Track
put_summary model p s =
    let ss = put_place pair_size (λ v. drop pair_size p) (take pair_size p) s.summaries in
    cond (becomes_disputed model s.summaries ss) (recheck (with_summaries ss s)) (with_summaries ss s)

-- 5 where this engine and model are new and 256 pairs are held, else 0
abbrev pub hold_pair : ℕ → List ℕ → Track → Transition Track
hold_pair model p s =
    cond (not (holds pair_size (take pair_size p) s.summaries) && nat_le max_summaries (length s.summaries)) (refused 5) (done 0 (put_summary model p s))

-- a fix that waited is tried as if it were reported now
abbrev pub tried : Both → Waiting → Both
tried b w = left_by b (track_report w.engine w.record_bytes b)

unfoldable pub tried_all : Both → List Waiting → Both
tried_all b [] = b
tried_all b (w ∷ ws) = tried_all (tried b w) ws

-- the fixes that wait for a model leave the shelf, and are tried in their order
abbrev pub arrival : ℕ → Both → Both
arrival model b = tried_all (record { track = b.track; shelf = filter (λ w. not (waits_for model w)) b.shelf }) (filter (waits_for model) b.shelf)

-- where a summary was stored its model arrives
abbrev pub arrives : ℕ → List Waiting → Transition Track → Transition Both
arrives model ws (refused n) = refused n
arrives model ws (done n t) = done n (arrival model (record { track = t; shelf = ws }))

-- 2, 9 or 4
abbrev pub track_summary : ℕ → ℕ → ℕ → List ℕ → Both → Transition Both
track_summary e model spec inputs b =
    cond (nat_lt max_engine e) (refused 2)
    (cond (nat_lt max_model model || not (length inputs == inputs_size)) (refused 9)
    (cond (bit b.track.convicted e) (refused 4) (arrives model b.shelf (hold_pair model (summary_of e model spec inputs) b.track))))

-- ---- conviction

-- 2, else 0; the engine's own fixes that wait are thrown out, and a repeated conviction checks the fixes again too
abbrev pub track_conviction : ℕ → Both → Transition Both
track_conviction e b =
    cond (nat_lt max_engine e) (refused 2) (done 0 (record { track = recheck (strike_engine e b.track); shelf = filter (λ w. not (is_reported_by e w)) b.shelf }))
