-- Which fixes wait after a call, and in which order.
use Rattle.std.proofs.Common.{◌≡◌, ℕ, ◌+◌, ◌≤◌, ◌<◌, Bool, true, not, ◌&&◌, leb, Option, Some, None, List, [], ◌∷◌, ◌++◌, length, refl, sym, ap, ap₂, ◌∙◌, subst, arith, append-nil, append_assoc, leb-true}
use lib.ListN.{length-append}
use mathlib.Core.List.{flat_map}
use Rattle.std.specs.List.{filter, list_all}
use Rattle.lists.proofs.Bools.{by, and_left, and_right, and_both}
use Rattle.octets.specs.Masks.{bit}
use Rattle.record.specs.Formed as R
use Rattle.engines.specs.Limits.{max_engine}
use Rattle.models.specs.Models.{counts}
use Rattle.models.specs.Missing.{first_missing}
use Rattle.models.proofs.Waiting.{waits_exactly_where}
use Rattle.track_memory.specs.Track.{Track}
use Rattle.track_shelf.specs.Layout.{max_waiting}
use Rattle.track_shelf.specs.Waiting.{Waiting, waits_for, may_wait}
use Rattle.track_shelf.specs.Memory.{decode_shelf}
use Rattle.track_shelf.specs.Both.{Both, decode_both}
use Rattle.track_shelf.proofs.Shelves as S
use Rattle.track_shelf.proofs.Boths.{shelf-sound, waiting-fixes}
use Rattle.track.specs.Track.{left_by, take_under, tried, tried_all, arrival}
use Rattle.track.specs.Steps.{may_report}
use Rattle.track.specs.Calls.{Call, report, summary, conviction, act}
use Rattle.track.specs.Shelved.{place_under, place_of, shelf_after, WaitsInOrder}
use Rattle.track.proofs.Leaving.{Leaves, report-leaves, summary-leaves, conviction-leaves}
use Rattle.track.proofs.Arriving.{all-filter, recheck-same}
use Rattle.track.proofs.Trying.{tried-taken}

abbrev place : List (List ℕ) → Waiting → List Waiting
place ss w = place_of ss w.engine w.record_bytes

-- a record that waits for none takes no place
same-shelf : (ss : List (List ℕ)) (e : ℕ) (r : List ℕ) (ws : List Waiting) → first_missing ss r ≡ None → ws ≡ ws ++ place_of ss e r
same-shelf ss e r ws q = sym (ap (λ (o : Option ℕ). ws ++ place_under o e r) q ∙ append-nil ws)

-- one that waits takes the place behind the others
one-more : (ss : List (List ℕ)) (e : ℕ) (r : List ℕ) (ws : List Waiting) (model : ℕ) → first_missing ss r ≡ Some model → ws ++ place_under (Some model) e r ≡ ws ++ place_of ss e r
one-more ss e r ws model q = ap (λ (o : Option ℕ). ws ++ place_under o e r) (sym q)

place-few : (o : Option ℕ) (e : ℕ) (r : List ℕ) → length (place_under o e r) ≤ 1
place-few None e r = omega arith
place-few (Some model) e r = omega arith

-- ---- a fix that is tried where there is room

-- what a trial leaves: the track has its summaries and its convicted engines still, and the fix has its place, if it takes one
record Tried (b : Both) (x : Waiting) (u : Both) : Type 0 where
  summaries : u.track.summaries ≡ b.track.summaries
  convicted : u.track.convicted ≡ b.track.convicted
  shelf : u.shelf ≡ b.shelf ++ place b.track.summaries x

module _ (b : Both) (x : Waiting) (room : length b.shelf < max_waiting) where
  taken : (o : Option ℕ) → first_missing b.track.summaries x.record_bytes ≡ o → Tried b x (left_by b (take_under o x.engine x.record_bytes b))
  taken None q =
      let s = same-shelf b.track.summaries x.engine x.record_bytes b.shelf q in
      by (counts b.track.summaries x.record_bytes)
      (λ a. rw a (record { summaries = refl; convicted = refl; shelf = s }))
      (λ a. rw a (record { summaries = refl; convicted = refl; shelf = s }))
  taken (Some model) q =
      by (leb max_waiting (length b.shelf))
      (λ a. let full = leb-true max_waiting (length b.shelf) a in absurd (omega (arith, full)))
      (λ a. rw a (record { summaries = refl; convicted = refl; shelf = one-more b.track.summaries x.engine x.record_bytes b.shelf model q }))

  tries : may_report b.track.convicted x ≡ true → Tried b x (tried b x)
  tries h = subst (Tried b x) (sym (tried-taken b x h)) (taken (first_missing b.track.summaries x.record_bytes) refl)

-- ---- all that are tried

placed : (fs : List Waiting) (b : Both) → list_all (may_report b.track.convicted) fs ≡ true → length b.shelf + length fs ≤ max_waiting → (
    (tried_all b fs).track.summaries ≡ b.track.summaries)
    × ((tried_all b fs).shelf ≡ b.shelf ++ flat_map (place b.track.summaries) fs)
unfolding tried_all flat_map
placed [] b a l = (refl, sym (append-nil b.shelf))
placed (x ∷ fs) b a l =
    let ss = b.track.summaries in
    let t = tries b x (omega (arith, l)) (and_left (may_report b.track.convicted x) (list_all (may_report b.track.convicted) fs) a) in
    let few = place-few (first_missing ss x.record_bytes) x.engine x.record_bytes in
    let long : length (tried b x).shelf ≡ length b.shelf + length (place ss x) = ap (λ (ws : List Waiting). length ws) t.shelf ∙ length-append b.shelf (place ss x) in
    let rest : list_all (may_report (tried b x).track.convicted) fs ≡ true =
    ap (λ (c : ℕ). list_all (may_report c) fs) t.convicted ∙ and_right (may_report b.track.convicted x) (list_all (may_report b.track.convicted) fs) a in
    let k = placed fs (tried b x) rest (omega (arith, l, few, long)) in (
      k.0 ∙ t.summaries,
      k.1 ∙ ap₂ (λ (ws : List Waiting) (s : List (List ℕ)). ws ++ flat_map (place s) fs) t.shelf t.summaries ∙ append_assoc b.shelf (place ss x) (flat_map (place ss) fs),
    )

parted : (f : Waiting → Bool) (l : List Waiting) → length (filter (λ w. not (f w)) l) + length (filter f l) ≡ length l
parted f [] = refl
parted f (x ∷ l) = let k = parted f l in by (f x) (λ h. rw h (omega (arith, k))) (λ h. rw h (omega (arith, k)))

may-report : (c : ℕ) (ss : List (List ℕ)) (x : Waiting) → may_wait c ss x ≡ true → may_report c x ≡ true
may-report c ss x h =
    and_both (R.well_formed x.record_bytes) (leb x.engine max_engine && not (bit c x.engine)) (S.has-record c ss x h)
    (and_both (leb x.engine max_engine) (not (bit c x.engine)) (S.has-engine c ss x h) (S.is-free c ss x h))

-- ---- the claim

module _ (b : Both) (few : length b.shelf ≤ max_waiting) (wait : list_all (may_wait b.track.convicted b.track.summaries) b.shelf ≡ true) where
  -- the shelf that a call leaves
  abbrev Left : Call → Both → Type 0
  Left c u = u.shelf ≡ shelf_after c u.track.summaries b.shelf

  arrived : (e model spec : ℕ) (inputs : List ℕ) (t : Track) → t.convicted ≡ b.track.convicted → Left (summary e model spec inputs) (arrival model (record { track = t; shelf = b.shelf }))
  arrived e model spec inputs t q =
      let c = b.track.convicted in
      let others : List Waiting = filter (λ w. not (waits_for model w)) b.shelf in
      let fs : List Waiting = filter (waits_for model) b.shelf in
      let may : list_all (may_report t.convicted) fs ≡ true =
      ap (λ (n : ℕ). list_all (may_report n) fs) q ∙ all-filter (may_wait c b.track.summaries) (waits_for model) (may_report c) (λ x h o. may-report c b.track.summaries x h) b.shelf wait in
      let l = parted (waits_for model) b.shelf in
      let k = placed fs (record { track = t; shelf = others }) may (omega (arith, l, few)) in
      k.1 ∙ ap (λ (ss : List (List ℕ)). others ++ flat_map (place ss) fs) (sym k.0)

  act-places : (c : Call) → Leaves (Left c) (act c b)
  act-places (report e r) =
      report-leaves (Left (report e r)) e r b
      (λ h f n. (
        (λ model q k. one-more b.track.summaries e r b.shelf model q),
        (λ k. same-shelf b.track.summaries e r b.shelf (waits_exactly_where.counted b.track.summaries r k)),
      ))
  act-places (summary e model spec inputs) =
      summary-leaves (λ t. t.convicted ≡ b.track.convicted) (Left (summary e model spec inputs)) e model spec inputs b
      (λ h g l z d. refl)
      (λ t q. (recheck-same t).0 ∙ q)
      (λ t q. arrived e model spec inputs t q)
  act-places (conviction e) = conviction-leaves (Left (conviction e)) e b (λ h. refl)

pub waits-in-order : WaitsInOrder
waits-in-order c m w b n h q =
    let n = S.decode-length w in
    let s = shelf-sound m w h in
    let few : length (decode_shelf w) ≤ max_waiting = omega (arith, n, s.few) in
    subst (Leaves (Left (decode_both m w) few (waiting-fixes m w h) c)) q (act-places (decode_both m w) few (waiting-fixes m w h) c)
