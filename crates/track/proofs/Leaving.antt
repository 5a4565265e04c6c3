-- What holds of the track and the shelf that an operation leaves, if it leaves them.
use Rattle.std.proofs.Common.{◌≡◌, ℕ, ◌≤◌, ◌<◌, true, false, not, ◌&&◌, ◌||◌, eqb, ltb, leb, Option, Some, None, List, [], ◌∷◌, ◌++◌, length, take, refl, ltb-false, eqb-true}
use borrow.Author.Tests.{not-false, leb-false}
use Rattle.std.specs.List.{filter}
use Rattle.lists.proofs.Bools.{by, neither_left, neither_right}
use Rattle.octets.specs.Masks.{bit}
use Rattle.tables.specs.Places.{holds}
use Rattle.record.specs.Formed as R
use Rattle.record.specs.Layout.{max_model}
use Rattle.models.specs.Summary.{inputs_size, summary_of}
use Rattle.models.specs.Models.{counts}
use Rattle.models.specs.Missing.{first_missing}
use Rattle.engines.specs.Limits.{max_engine}
use Rattle.models.specs.Limits.{max_summaries}
use Rattle.track_merge.specs.Merged.{merged}
use Rattle.track_memory.specs.Layout.{pair_size}
use Rattle.track_memory.specs.Track.{Track, Transition, refused, done}
use Rattle.track_memory.specs.Steps.{with_pair}
use Rattle.track_recheck.specs.Recheck.{recheck, strike_engine}
use Rattle.track_shelf.specs.Layout.{max_waiting}
use Rattle.track_shelf.specs.Waiting.{Waiting, is_reported_by}
use Rattle.track_shelf.specs.Both.{Both}
use Rattle.track.specs.Track.{reported_fix, stepped, take_under, track_report, left_by, becomes_disputed, put_summary, hold_pair, tried, tried_all, arrival, arrives, track_summary, track_conviction}

-- what is left, if something is
abbrev pub Leaves : {A : Type 0} → (A → Type 0) → Transition A → Type 0
Leaves P (refused n) = Unit {0}
Leaves P (done n t) = P t

module _ (P : Both → Type 0) where
  -- of the track and the shelf after it, if it held before
  pub left_after : (b : Both) (o : Transition Both) → P b → Leaves P o → P (left_by b o)
  left_after b (refused n) p q = p
  left_after b (done n t) p q = q

  -- ---- a report

  module _ (e : ℕ) (r : List ℕ) (b : Both) where
    -- with a fix at the shelf's end, and with one that was merged
    abbrev pub with-last : ℕ → Both
    with-last m = record { track = b.track; shelf = b.shelf ++ (record { model = m; engine = e; record_bytes = r } ∷ []) }

    abbrev pub with-merged : Both
    with-merged = record { track = stepped (merged (reported_fix e r b.track) b.track.transmissions) b.track; shelf = b.shelf }

    take-leaves : (o : Option ℕ) → ((m : ℕ) → o ≡ Some m → length b.shelf < max_waiting → P (with-last m)) → (counts b.track.summaries r ≡ true → P with-merged) → Leaves P (take_under o e r b)
    take-leaves (Some m) f g = by (leb max_waiting (length b.shelf)) (λ a. rw a tt) (λ a. rw a (f m refl (leb-false max_waiting (length b.shelf) a)))
    take-leaves None f g = by (counts b.track.summaries r) (λ a. rw a (g a)) (λ a. rw a tt)

    pub report-leaves : (e ≤ max_engine → R.well_formed r ≡ true → bit b.track.convicted e ≡ false
        → ((m : ℕ) → first_missing b.track.summaries r ≡ Some m → length b.shelf < max_waiting → P (with-last m)) × (counts b.track.summaries r ≡ true → P with-merged))
        → Leaves P (track_report e r b)
    report-leaves f =
        by (ltb max_engine e)
        (λ a. rw a tt)
        (λ a. by (R.well_formed r)
        (λ w. by (bit b.track.convicted e)
        (λ c. rw (a, w, c) tt)
        (λ c. let k = f (ltb-false max_engine e a) w c in rw (a, w, c) (take-leaves (first_missing b.track.summaries r) k.0 k.1)))
        (λ w. rw (a, w) tt))

  -- ---- fixes that are tried

  pub tried-keeps : ((b : Both) (w : Waiting) → P b → P (tried b w)) → (ws : List Waiting) (b : Both) → P b → P (tried_all b ws)
  unfolding tried_all
  tried-keeps f [] b p = p
  tried-keeps f (w ∷ ws) b p = tried-keeps f ws (tried b w) (f b w p)

-- ---- a summary

module _ (Q : Track → Type 0) where
  -- it is put, and where it is disputed then, the track is rechecked
  put-leaves : (model : ℕ) (p : List ℕ) (s : Track) → Q (with_pair p s) → Q (recheck (with_pair p s)) → Q (put_summary model p s)
  put-leaves model p s a b = by (becomes_disputed model s.summaries (with_pair p s).summaries) (λ d. rw d b) (λ d. rw d a)

  pub hold-leaves : (model : ℕ) (p : List ℕ) (s : Track) → ((not (holds pair_size (take pair_size p) s.summaries) && leb max_summaries (length s.summaries)) ≡ false → Q (with_pair p s)) → ((t : Track) → Q t → Q (recheck t))
      → Leaves Q (hold_pair model p s)
  hold-leaves model p s f g =
      by (not (holds pair_size (take pair_size p) s.summaries) && leb max_summaries (length s.summaries))
      (λ d. rw d tt)
      (λ d. rw d (put-leaves model p s (f d) (g (with_pair p s) (f d))))

module _ (Q : Track → Type 0) (P : Both → Type 0) where
  arrives-leaves : (model : ℕ) (ws : List Waiting) (o : Transition Track) → ((t : Track) → Q t → P (arrival model (record { track = t; shelf = ws }))) → Leaves Q o → Leaves P (arrives model ws o)
  arrives-leaves model ws (refused n) f q = tt
  arrives-leaves model ws (done n t) f q = f t q

  pub summary-leaves : (e model spec : ℕ) (inputs : List ℕ) (b : Both)
      → (e ≤ max_engine → model ≤ max_model → length inputs ≡ inputs_size → bit b.track.convicted e ≡ false
      → (not (holds pair_size (take pair_size (summary_of e model spec inputs)) b.track.summaries) && leb max_summaries (length b.track.summaries)) ≡ false → Q (with_pair (summary_of e model spec inputs) b.track))
      → ((t : Track) → Q t → Q (recheck t)) → ((t : Track) → Q t → P (arrival model (record { track = t; shelf = b.shelf }))) → Leaves P (track_summary e model spec inputs b)
  summary-leaves e model spec inputs b f g h =
      let size = not (eqb (length inputs) inputs_size) in
      by (ltb max_engine e)
      (λ a. rw a tt)
      (λ a. by (ltb max_model model || size)
      (λ d. rw (a, d) tt)
      (λ d. by (bit b.track.convicted e)
      (λ c. rw (a, d, c) tt)
      (λ c.
      let l = eqb-true (length inputs) inputs_size (not-false (eqb (length inputs) inputs_size) (neither_right (ltb max_model model) size d)) in
      let q = f (ltb-false max_engine e a) (ltb-false max_model model (neither_left (ltb max_model model) size d)) l c in
      rw (a, d, c) (arrives-leaves model b.shelf (hold_pair model (summary_of e model spec inputs) b.track) h (hold-leaves Q model (summary_of e model spec inputs) b.track q g)))))

-- ---- a conviction

pub conviction-leaves : (P : Both → Type 0) (e : ℕ) (b : Both) → (e ≤ max_engine → P (record { track = recheck (strike_engine e b.track); shelf = filter (λ w. not (is_reported_by e w)) b.shelf }))
    → Leaves P (track_conviction e b)
conviction-leaves P e b p = by (ltb max_engine e) (λ a. rw a tt) (λ a. rw a (p (ltb-false max_engine e a)))
