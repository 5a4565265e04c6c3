-- A summary that is stored, and the fixes that waited for its model: they are tried one after another.
use Rattle.std.proofs.Common.{◌≡◌, ℕ, zero, suc, Bool, ◌+◌, ◌≤◌, ◌<◌, true, false, not, ◌&&◌, ◌||◌, leb, eqb, List, [], ◌∷◌, length, get_or, take, drop, sym, refl, ap, ap₂, ◌∙◌, arith, subst, add-one, drop-cons, le-ltb, leb-true}
use lib.ListN.{drop_of_length-le}
use Rattle.std.specs.List.{filter, list_all}
use Rattle.lists.proofs.Bools.{by, and_left, and_right, and_both, not_t}
use Rattle.lists.proofs.Lists.{filter-few}
use Rattle.octets.specs.Bytes.{Bytes}
use Rattle.octets.specs.Masks.{bit}
use Rattle.tables.specs.Places.{holds}
use Rattle.record.specs.Formed as R
use Rattle.models.specs.Summary.{summary_size, model_of}
use Rattle.models.specs.Summaries.{summary_formed}
use Rattle.models.specs.Limits.{max_summaries}
use Rattle.engines.specs.Limits.{max_engine}
use Rattle.errors.specs.After.{After, after}
use Rattle.track_memory.specs.Layout.{pair_size}
use Rattle.track_memory.specs.Track.{Track, Transition, refused, done}
use Rattle.track_memory.specs.Memory.{well_formed, decode, encode, commit}
use Rattle.track_memory.proofs.Opened as O
use Rattle.track_memory.proofs.Valid as V
use Rattle.track_memory.proofs.Pairs.{pair-valid}
use Rattle.track_shelf.specs.Waiting.{Waiting, waits_for, may_wait}
use Rattle.track_shelf.specs.Memory.{decode_shelf}
use Rattle.track_shelf.specs.Both.{Both, both_formed, decode_both, encode_both, commit_both}
use Rattle.track_shelf.proofs.Shelves as S
use Rattle.track_shelf.proofs.Boths.{ValidBoth, shelf-sound, waiting-fixes, decode-valid, formed-encode, decode-encode}
use Rattle.track.specs.Track.{take_record, track_report, left_by, put_summary, hold_pair, tried, tried_all, arrival, arrives}
use Rattle.track.specs.Steps.{may_report, may_wait_or, Arriving}
use Rattle.track.proofs.Leaving.{Leaves, left_after, report-leaves, hold-leaves}
use Rattle.track.proofs.Arriving.{missing-put, all-filter, all-weaken, waits-on}
use Rattle.track.proofs.Kept.{Put, recheck-put, tried-valid}

-- ---- a fix that is tried is taken, since its engine may report it

pub tried-taken : (b : Both) (x : Waiting) → may_report b.track.convicted x ≡ true → tried b x ≡ left_by b (take_record x.engine x.record_bytes b)
tried-taken b x h =
    let e = leb x.engine max_engine && not (bit b.track.convicted x.engine) in
    let f : R.well_formed x.record_bytes ≡ true = and_left (R.well_formed x.record_bytes) e h in
    let g : leb x.engine max_engine ≡ true = and_left (leb x.engine max_engine) (not (bit b.track.convicted x.engine)) (and_right (R.well_formed x.record_bytes) e h) in
    let c : bit b.track.convicted x.engine ≡ false = not_t (bit b.track.convicted x.engine) (and_right (leb x.engine max_engine) (not (bit b.track.convicted x.engine)) (and_right (R.well_formed x.record_bytes) e h)) in
    let k = leb-true x.engine max_engine g in
    rw (le-ltb max_engine x.engine k, f, c) refl

tried-convicted : (b : Both) (x : Waiting) → (tried b x).track.convicted ≡ b.track.convicted
tried-convicted b x =
    let P : Both → Type 0 = λ u. u.track.convicted ≡ b.track.convicted in
    left_after P b (track_report x.engine x.record_bytes b) refl (report-leaves P x.engine x.record_bytes b (λ h w c. ((λ m q k. refl), (λ q. refl))))

-- ---- the fixes fs, of which the first i were tried

pub record Trying (c : ℕ) (start : Both) (fs : List Waiting) (i : ℕ) (m w : List ℕ) : Type 0 where
  pub both : Both
  pub valid : ValidBoth both
  pub convicted : both.track.convicted ≡ c
  pub is : (m, w) ≡ encode_both both
  pub rest : tried_all both (drop i fs) ≡ tried_all start fs

pub none-tried : (start : Both) (fs : List Waiting) (m w : List ℕ) → ValidBoth start → (m, w) ≡ encode_both start → Trying start.track.convicted start fs 0 m w
none-tried start fs m w v e = record { both = start; valid = v; convicted = refl; is = e; rest = refl }

pub trying-formed : {c i : ℕ} {start : Both} {fs : List Waiting} {m w : List ℕ} → Trying c start fs i m w → both_formed m w ≡ true
trying-formed t = ap (λ (p : List ℕ × List ℕ). both_formed p.0 p.1) t.is ∙ formed-encode t.both t.valid

item-passes : (test : Waiting → Bool) (l : List Waiting) (i : ℕ) (x : Waiting) → list_all test l ≡ true → i < length l → x ≡ get_or l i x → test x ≡ true
item-passes test [] i x a h e = absurd (omega (arith, h))
item-passes test (y ∷ l) zero x a h e = ap test e ∙ and_left (test y) (list_all test l) a
item-passes test (y ∷ l) (suc i) x a h e = item-passes test l i x (and_right (test y) (list_all test l) a) (omega (arith, h)) e

left-encoded : (m w : List ℕ) (b : Both) (o : Transition Both) → (m, w) ≡ encode_both b → (commit_both m w o).left ≡ encode_both (left_by b o)
left-encoded m w b (refused n) e = e
left-encoded m w b (done n t) e = refl

pub one-tried : (c i : ℕ) (start : Both) (fs : List Waiting) (m w m' w' : List ℕ) (x : Waiting) (n : ℕ) → list_all (may_report c) fs ≡ true → Trying c start fs i m w → i < length fs → x ≡ get_or fs i x
    → after n (m', w') ≡ commit_both m w (take_record x.engine x.record_bytes (decode_both m w)) → Trying c start fs (i + 1) m' w'
unfolding tried_all
one-tried c i start fs m w m' w' x n all t h e q =
    let b = t.both in
    let may : may_report b.track.convicted x ≡ true = ap (λ (k : ℕ). may_report k x) t.convicted ∙ item-passes (may_report c) fs i x all h e in
    let held : decode_both m w ≡ b = ap (λ (p : List ℕ × List ℕ). decode_both p.0 p.1) t.is ∙ decode-encode b t.valid in
    let as-taken = tried-taken b x may in
    let next : drop i fs ≡ x ∷ drop (i + 1) fs = drop-cons fs i x h ∙ ap₂ ◌∷◌ (sym e) (ap (λ (k : ℕ). drop k fs) (sym (add-one i))) in
    record {
      both = tried b x;
      valid = tried-valid b x t.valid;
      convicted = tried-convicted b x ∙ t.convicted;
      is = ap (λ (a : After (List ℕ × List ℕ)). a.left) (q ∙ ap (λ (k : Both). commit_both m w (take_record x.engine x.record_bytes k)) held)
          ∙ left-encoded m w b (take_record x.engine x.record_bytes b) t.is ∙ ap encode_both (sym as-taken);
      rest = sym (ap (tried_all b) next) ∙ t.rest;
    }

pub all-tried : (c i : ℕ) (start : Both) (fs : List Waiting) (m w : List ℕ) → length fs ≤ i → Trying c start fs i m w → (m, w) ≡ encode_both (tried_all start fs)
unfolding tried_all
all-tried c i start fs m w h t =
    let end : tried_all t.both (drop i fs) ≡ t.both = ap (tried_all t.both) (drop_of_length-le fs h) in
    t.is ∙ ap encode_both (sym end ∙ t.rest)

-- ---- where a model has arrived

module _ (model : ℕ) (m w : List ℕ) (a : Arriving model m w) (y : Bytes m) where
  abbrev others : Waiting → Bool
  others x = not (waits_for model x)

  abbrev pub start-of : Both
  start-of = record { track = decode m; shelf = filter others (decode_shelf w) }

  c : ℕ
  c = (decode m).convicted

  pub same-track : encode (decode m) ≡ m
  same-track = O.encode-decode m (O.opened m a.track) y

  stays-waiting : (x : Waiting) → may_wait_or model (decode m).convicted (decode m).summaries x ≡ true → others x ≡ true → may_wait (decode m).convicted (decode m).summaries x ≡ true
  stays-waiting x h o =
      let t = may_wait (decode m).convicted (decode m).summaries x in
      let k : (waits_for model x || t) ≡ true = and_right (may_report (decode m).convicted x) (waits_for model x || t) h in
      rw (not_t (waits_for model x) o) at k

  pub start-is-valid : ValidBoth start-of
  start-is-valid = record {
    track = V.decode-valid m (O.opened m a.track) y;
    few = let f = filter-few others (decode_shelf w) in omega (arith, f, a.shelf.few, S.decode-length w);
    wait = all-filter (may_wait_or model (decode m).convicted (decode m).summaries) others (may_wait (decode m).convicted (decode m).summaries) stays-waiting (decode_shelf w) a.fixes;
  }

  pub may-report-all : list_all (may_report (decode m).convicted) (filter (waits_for model) (decode_shelf w)) ≡ true
  may-report-all =
      all-filter (may_wait_or model (decode m).convicted (decode m).summaries) (waits_for model) (may_report (decode m).convicted)
      (λ x h o. and_left (may_report (decode m).convicted x) (waits_for model x || may_wait (decode m).convicted (decode m).summaries x) h) (decode_shelf w) a.fixes

  -- none waits for it
  pub none-arrives : filter (waits_for model) (decode_shelf w) ≡ [] → (m, w) ≡ encode_both (arrival model (decode_both m w))
  unfolding tried_all
  none-arrives e = rw (e, none-less (waits_for model) (decode_shelf w) e) (λ i. (sym same-track i, sym (S.encode-decode w a.shelf) i))
    where
      none-less : (f : Waiting → Bool) (l : List Waiting) → filter f l ≡ [] → filter (λ x. not (f x)) l ≡ l
      none-less f [] e = refl
      none-less f (x ∷ l) e = by (f x) (λ h. grind (arith, e, h)) (λ h. rw h (ap (λ (t : List Waiting). x ∷ t) (none-less f l (sym (rw h refl) ∙ e))))

  -- nothing waits
  pub empty-arrives : length (decode_shelf w) ≡ 0 → (m, w) ≡ encode_both (arrival model (decode_both m w))
  empty-arrives e = none-arrives (ap (filter (waits_for model)) (empty (decode_shelf w) e))
    where
      empty : (l : List Waiting) → length l ≡ 0 → l ≡ []
      empty [] z = refl
      empty (x ∷ l) z = absurd (omega (arith, z))

-- ---- a summary that is put

module _ (m w : List ℕ) (y : Bytes m) (h : both_formed m w ≡ true) (model : ℕ) (p : List ℕ) where
  abbrev s : Track
  s = decode m

  abbrev full : Bool
  full = not (holds pair_size (take pair_size p) s.summaries) && leb max_summaries (length s.summaries)

  -- it was refused
  pub store-refused : (a : ℕ) (x : List ℕ) → (a ≡ 0 → ⊥) → after a x ≡ commit m (hold_pair model p s) → after a (x, w) ≡ commit_both m w (arrives model (decode_shelf w) (hold_pair model p s))
  store-refused a x z q =
      by full
      (λ t.
      let r : after a x ≡ after 5 m = q ∙ rw t refl in
      rw t (ap (λ (u : After (List ℕ)). after u.answer (u.left, w)) r))
      (λ t. let r : after a x ≡ after 0 (encode (put_summary model p s)) = q ∙ rw t refl in absurd (z (ap (λ (u : After (List ℕ)). u.answer) r)))

  module _ (wide : length p ≡ summary_size) (formed : summary_formed s.convicted p ≡ true) (of-model : model_of p ≡ model) where
    put-leaves : Leaves (Put s model) (hold_pair model p s)
    put-leaves =
        let v = (decode-valid m w h y).track in
        hold-leaves (Put s model) model p s
        (λ d. record { valid = pair-valid p wide s v formed d; convicted = refl; others = λ k o i. missing-put k p s (ap (λ (n : ℕ). eqb n k) of-model ∙ o) i })
        (recheck-put s model)

    -- it was put, and leaves a track
    pub record Stored (x : List ℕ) : Type 0 where
      pub track : Track
      pub put : Put s model track
      pub bytes : x ≡ encode track
      pub is : hold_pair model p s ≡ done 0 track

    pub stored : (x : List ℕ) → after 0 x ≡ commit m (hold_pair model p s) → Stored x
    stored x q =
        by full
        (λ t. let r : after 0 x ≡ after 5 m = q ∙ rw t refl in let z : 0 ≡ 5 = ap (λ (u : After (List ℕ)). u.answer) r in absurd (omega (arith, z)))
        (λ t.
        let is : hold_pair model p s ≡ done 0 (put_summary model p s) = rw t refl in
        record {
          track = put_summary model p s;
          put = subst (Leaves (Put s model)) is put-leaves;
          bytes = ap (λ (u : After (List ℕ)). u.left) (q ∙ ap (commit m) is);
          is = is;
        })

    module _ (x : List ℕ) (k : Stored x) where
      held : decode x ≡ k.track
      held = ap decode k.bytes ∙ V.decode-encode k.track k.put.valid

      may-still : (f : Waiting) → may_wait s.convicted s.summaries f ≡ true → may_wait_or model k.track.convicted k.track.summaries f ≡ true
      may-still f a =
          let may : may_report s.convicted f ≡ true =
          and_both (R.well_formed f.record_bytes) (leb f.engine max_engine && not (bit s.convicted f.engine)) (S.has-record s.convicted s.summaries f a)
          (and_both (leb f.engine max_engine) (not (bit s.convicted f.engine)) (S.has-engine s.convicted s.summaries f a) (S.is-free s.convicted s.summaries f a)) in
          rw k.put.convicted
          (and_both (may_report s.convicted f) (waits_for model f || may_wait s.convicted k.track.summaries f) may
          (by (waits_for model f)
          (λ o. rw o refl)
          (λ o. rw o (waits-on s.convicted model s.summaries k.track.summaries k.put.others f a (ap not o)))))

      pub arriving : Arriving model x w
      arriving = record {
        track = ap well_formed k.bytes ∙ V.formed-encode k.track k.put.valid;
        shelf = shelf-sound m w h;
        fixes = rw held (all-weaken (may_wait s.convicted s.summaries) (may_wait_or model k.track.convicted k.track.summaries) may-still (decode_shelf w) (waiting-fixes m w h));
      }

      pub arrived : (z : List ℕ × List ℕ) → z ≡ encode_both (arrival model (decode_both x w)) → after 0 z ≡ commit_both m w (arrives model (decode_shelf w) (hold_pair model p s))
      arrived z q =
          ap (after 0) (q ∙ ap (λ (t : Track). encode_both (arrival model (record { track = t; shelf = decode_shelf w }))) held)
          ∙ sym (ap (λ (o : Transition Track). commit_both m w (arrives model (decode_shelf w) o)) k.is)
