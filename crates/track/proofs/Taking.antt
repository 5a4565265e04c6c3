-- A record that is reported: it is refused, or it is taken, so that it is merged or waits.
use Rattle.std.proofs.Common.{◌≡◌, ℕ, ◌<◌, true, false, cond, leb, List, [], ◌∷◌, ◌++◌, Result, Ok, Err, Some, None, length, sym, refl, ap, ◌∙◌, arith, le-ltb}
use Rattle.lists.proofs.Bools.{by}
use Rattle.octets.specs.Masks.{bit}
use Rattle.record.specs.Formed as R
use Rattle.models.specs.Models.{counts}
use Rattle.models.specs.Missing.{first_missing}
use Rattle.models.proofs.Waiting.{waits_exactly_where}
use Rattle.engines.specs.Limits.{max_engine}
use Rattle.errors.specs.After.{After, after}
use Rattle.errors.specs.declared.Error.{Error}
use Rattle.errors.specs.declared.Error.TheVariants.{ShelfFull}
use Rattle.track_merge.specs.Merged.{merged_number, merged}
use Rattle.track_memory.specs.Memory.{decode, encode, commit}
use Rattle.track_shelf.specs.Layout.{max_waiting}
use Rattle.track_shelf.specs.Waiting as W
use Rattle.track_shelf.specs.Memory.{decode_shelf, encode_shelf}
use Rattle.track_shelf.specs.Steps.{Sound}
use Rattle.track_shelf.specs.Both.{both_formed, decode_both, commit_both, on_both}
use Rattle.track_shelf.proofs.Shelves as S
use Rattle.track.specs.declared.reports.Reported.{Reported}
use Rattle.track.specs.declared.reports.Reported.TheVariants.{Waiting}
use Rattle.track.specs.Answers.{reported_number}
use Rattle.track.specs.Track.{reported_fix, stepped, take_cited, take_record, track_report}

module _ (m w : List ℕ) (e : ℕ) (r : List ℕ) where
  abbrev taking : After (List ℕ × List ℕ)
  taking = commit_both m w (take_record e r (decode_both m w))

  -- it is merged beside the shelf
  pub taken-merged : Sound w → counts (decode m).summaries r ≡ true → (a : ℕ) (x : List ℕ) → after a x ≡ commit m (take_cited e r (decode m)) → after a (x, w) ≡ taking
  taken-merged s k a x q =
      let y = merged (reported_fix e r (decode m)) (decode m).transmissions in
      let left : commit m (take_cited e r (decode m)) ≡ after (merged_number y.answer) (encode (stepped y (decode m))) = rw k refl in
      let number : a ≡ merged_number y.answer = ap (λ (z : After (List ℕ)). z.answer) (q ∙ left) in
      let bytes : x ≡ encode (stepped y (decode m)) = ap (λ (z : After (List ℕ)). z.left) (q ∙ left) in
      rw (waits_exactly_where.counted (decode m).summaries r k, k) (λ i. after (number i) (bytes i, sym (S.encode-decode w s) i))

  -- it waits, where there is room
  pub taken-waiting : encode (decode m) ≡ m → (model : ℕ) → first_missing (decode m).summaries r ≡ Some model → (fix : W.Waiting) → fix ≡ record { model = model; engine = e; record_bytes = r } → (v : Result Reported Error) (w' : List ℕ)
      → v ≡ cond (leb max_waiting (length (decode_shelf w))) (Err ShelfFull) (Ok Waiting) → w' ≡ cond (leb max_waiting (length (decode_shelf w))) w (encode_shelf (decode_shelf w ++ (fix ∷ [])))
      → after (reported_number v) (m, w') ≡ taking
  taken-waiting back model f fix is v w' p q =
      by (leb max_waiting (length (decode_shelf w)))
      (λ a. rw (p, q, f, a) refl)
      (λ a. rw (p, q, f, a, is) (λ i. after 24 (sym back i, encode_shelf (decode_shelf w ++ (record { model = model; engine = e; record_bytes = r } ∷ [])))))

  -- or it is never to count
  pub taken-never : counts (decode m).summaries r ≡ false → first_missing (decode m).summaries r ≡ None → after 7 (m, w) ≡ taking
  taken-never k f = rw (f, k) refl

  -- ---- a report, by what is tested before it is taken
  module _ (t : both_formed m w ≡ true) (h : e < 32) (f : R.well_formed r ≡ true) where
    pub convicted-is-4 : bit (decode m).convicted e ≡ true → after 4 (m, w) ≡ on_both (track_report e r) m w
    unfolding on_both
    convicted-is-4 b = rw (t, le-ltb max_engine e (omega arith), f, b) refl

    pub reported : bit (decode m).convicted e ≡ false → (x : After (List ℕ × List ℕ)) → x ≡ taking → x ≡ on_both (track_report e r) m w
    unfolding on_both
    reported b x q = rw (t, le-ltb max_engine e (omega arith), f, b) q
