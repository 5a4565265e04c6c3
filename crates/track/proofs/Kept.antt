-- The claims about every track in memory with its shelf and every call on them.
use Rattle.std.proofs.Common.{◌≡◌, ℕ, Bool, true, false, not, ◌∷◌, [], List, eqb, refl, ap, ◌∙◌, arith, le-leb}
use lib.ListN.{length-append}
use Rattle.std.specs.List.{filter}
use Rattle.std.proofs.lemmas.List.Folds.{list_all-append}
use Rattle.lists.proofs.Bools.{by}
use Rattle.lists.proofs.Lists.{filter-few}
use Rattle.octets.specs.Bytes.{Bytes}
use Rattle.record.specs.Layout.{max_model}
use Rattle.models.specs.Summary.{summary_of}
use Rattle.models.specs.Models.{state_of}
use Rattle.models.specs.Missing.{is_missing}
use Rattle.record.specs.Fields.{models}
use Rattle.models.proofs.Waiting.{is_cited, waits_exactly_where}
use Rattle.engines.specs.Limits.{max_engine}
use Rattle.models.proofs.Summarized.{summary-length}
use Rattle.track_memory.specs.Track.{Track, Transition, refused, done}
use Rattle.track_memory.proofs.Valid.{Valid}
use Rattle.track_memory.proofs.Pairs.{pair-valid}
use Rattle.track_recheck.specs.Recheck.{recheck, strike_engine}
use Rattle.track_recheck.proofs.Renewing.{recheck-valid, strike-valid}
use Rattle.track_shelf.specs.Waiting.{Waiting, waits_for, is_reported_by, may_wait}
use Rattle.track_shelf.specs.Both.{Both, both_formed, decode_both, commit_both, on_both}
use Rattle.track_shelf.proofs.Boths as B
use Rattle.track_shelf.proofs.Boths.{ValidBoth}
use Rattle.track.specs.Track.{left_by, track_report, tried, arrival}
use Rattle.track.specs.Calls.{Call, report, summary, conviction, act}
use Rattle.track.specs.Claims.{EncodeDecode, LeavesTrack, HoldsLeft, RefusalLeaves, MalformedLeaves}
use Rattle.track.proofs.Leaving.{Leaves, left_after, report-leaves, tried-keeps, summary-leaves, conviction-leaves}
use Rattle.track.proofs.Merging.{stepped-valid}
use Rattle.track.proofs.Arriving.{missing-put, recheck-same, all-filter, waits, waits-on, waits-still}

-- ---- every call leaves a valid track and a valid shelf

pub report-valid : (e : ℕ) (r : List ℕ) (b : Both) → ValidBoth b → Leaves ValidBoth (track_report e r b)
report-valid e r b v =
    report-leaves ValidBoth e r b
    (λ h w c. (
      (λ m q k.
          let new : Waiting = record { model = m; engine = e; record_bytes = r } in
          let at-m = waits_exactly_where.for_first b.track.summaries r m q in
          let is : may_wait b.track.convicted b.track.summaries new ≡ true = waits b.track.convicted b.track.summaries new w (le-leb e max_engine h) c (is_cited b.track.summaries (models r) m at-m) at-m.missing in
          record {
            track = v.track;
            few = rw (length-append b.shelf (new ∷ [])) (omega (arith, k));
            wait = list_all-append (may_wait b.track.convicted b.track.summaries) b.shelf (new ∷ []) ∙ rw (v.wait, is) refl;
          }),
      (λ q. record { track = stepped-valid b.track v.track e r h w c; few = v.few; wait = v.wait }),
    ))

pub tried-valid : (b : Both) (w : Waiting) → ValidBoth b → ValidBoth (tried b w)
tried-valid b w v = left_after ValidBoth b (track_report w.engine w.record_bytes b) v (report-valid w.engine w.record_bytes b v)

-- the track that a summary of a model leaves before its fixes are tried: each other model that was missing is
pub record Put (s : Track) (model : ℕ) (t : Track) : Type 0 where
  pub valid : Valid t
  pub convicted : t.convicted ≡ s.convicted
  pub others : (m : ℕ) → eqb model m ≡ false → is_missing (state_of m s.summaries) ≡ true → is_missing (state_of m t.summaries) ≡ true

pub recheck-put : (s : Track) (model : ℕ) (t : Track) → Put s model t → Put s model (recheck t)
recheck-put s model t p =
    let k = recheck-same t in
    record {
      valid = recheck-valid t p.valid;
      convicted = k.0 ∙ p.convicted;
      others = λ m h i. ap (λ (l : List (List ℕ)). is_missing (state_of m l)) k.1 ∙ p.others m h i;
    }

-- the shelf without the fixes that are tried then is one
pub rest-valid : (b : Both) (model : ℕ) (t : Track) → ValidBoth b → Put b.track model t → ValidBoth (record { track = t; shelf = filter (λ w. not (waits_for model w)) b.shelf })
rest-valid b model t v p =
    let test : Waiting → Bool = λ w. not (waits_for model w) in
    record {
      track = p.valid;
      few = let f = filter-few test b.shelf in omega (arith, f, v.few);
      wait = rw p.convicted
          (all-filter (may_wait b.track.convicted b.track.summaries) test (may_wait b.track.convicted t.summaries) (waits-on b.track.convicted model b.track.summaries t.summaries p.others) b.shelf v.wait);
    }

pub arrival-valid : (b : Both) (model : ℕ) (t : Track) → ValidBoth b → Put b.track model t → ValidBoth (arrival model (record { track = t; shelf = b.shelf }))
arrival-valid b model t v p = tried-keeps ValidBoth tried-valid (filter (waits_for model) b.shelf) (record { track = t; shelf = filter (λ w. not (waits_for model w)) b.shelf }) (rest-valid b model t v p)

pub act-valid : (c : Call) (b : Both) → ValidBoth b → Leaves ValidBoth (act c b)
act-valid (report e r) b v = report-valid e r b v
act-valid (summary e model spec inputs) b v =
    let p = summary_of e model spec inputs in
    summary-leaves (Put b.track model) ValidBoth e model spec inputs b
    (λ h g l c d. record {
      valid = pair-valid p (summary-length e model spec inputs l) b.track v.track (rw (le-leb e max_engine h, le-leb model max_model g, c) refl) d;
      convicted = refl;
      others = λ m o i. missing-put m p b.track o i;
    })
    (recheck-put b.track model)
    (λ t q. arrival-valid b model t v q)
act-valid (conviction e) b v =
    conviction-leaves ValidBoth e b
    (λ h. record {
      track = recheck-valid (strike_engine e b.track) (strike-valid b.track v.track e h);
      few = let f = filter-few (λ (w : Waiting). not (is_reported_by e w)) b.shelf in omega (arith, f, v.few);
      wait = all-filter (may_wait b.track.convicted b.track.summaries) (λ w. not (is_reported_by e w)) (may_wait (recheck (strike_engine e b.track)).convicted (recheck (strike_engine e b.track)).summaries) (waits-still e b.track) b.shelf v.wait;
    })

-- ---- on the bytes

pub encode-decode : EncodeDecode
encode-decode m w b h = B.encode-decode m w h b

module _ (m w : List ℕ) (b : Bytes m) (h : both_formed m w ≡ true) where
  left-formed : (o : Transition Both) → Leaves ValidBoth o → both_formed (commit_both m w o).left.0 (commit_both m w o).left.1 ≡ true
  left-formed (refused n) v = h
  left-formed (done n t) v = B.formed-encode t v

  left-holds : (o : Transition Both) → Leaves ValidBoth o → decode_both (commit_both m w o).left.0 (commit_both m w o).left.1 ≡ left_by (decode_both m w) o
  left-holds (refused n) v = refl
  left-holds (done n t) v = B.decode-encode t v

pub leaves-track : LeavesTrack
unfolding on_both
leaves-track c m w b h = rw h (left-formed m w b h (act c (decode_both m w)) (act-valid c (decode_both m w) (B.decode-valid m w h b)))

pub holds-left : HoldsLeft
unfolding on_both
holds-left c m w b h = rw h (left-holds m w b h (act c (decode_both m w)) (act-valid c (decode_both m w) (B.decode-valid m w h b)))

pub refusal-leaves : RefusalLeaves
unfolding on_both
refusal-leaves f m w n e = by (both_formed m w) (λ h. rw (h, e) refl) (λ h. rw h refl)

pub malformed-leaves : MalformedLeaves
unfolding on_both
malformed-leaves f m w h = rw h refl
