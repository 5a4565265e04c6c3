-- Fixes that come before the summary of their model, and those that come right behind it.
use Rattle.std.proofs.Common.{◌≡◌, ℕ, ◌+◌, ◌≤◌, ◌<◌, Bool, true, false, not, ◌&&◌, ◌||◌, leb, ltb, eqb, Option, Some, None, List, [], ◌∷◌, ◌++◌, map, length, take, refl, sym, ap, ap₂, ◌∙◌, arith, append-nil, append_assoc, leb-true, le-ltb}
use lib.ListN.{length-append}
use borrow.Author.Tests.{eqb-true, eq-eqb, lt-leb}
use Rattle.std.specs.List.{filter, list_all}
use Rattle.std.proofs.lemmas.List.Elements.{filter-append}
use Rattle.lists.proofs.Bools.{by, clash, and_left, and_right, not_t}
use Rattle.octets.specs.Masks.{bit}
use Rattle.tables.specs.Places.{holds}
use Rattle.record.specs.Formed as R
use Rattle.record.specs.Layout.{max_model}
use Rattle.engines.specs.Limits.{max_engine}
use Rattle.models.specs.Summary.{inputs_size, summary_of}
use Rattle.models.specs.Limits.{max_summaries}
use Rattle.models.specs.Missing.{first_missing}
use Rattle.errors.specs.After.{After}
use Rattle.track_memory.specs.Layout.{pair_size}
use Rattle.track_memory.specs.Track.{Track, Transition, refused, done}
use Rattle.track_memory.specs.Memory.{encode}
use Rattle.track_shelf.specs.Layout.{max_waiting}
use Rattle.track_shelf.specs.Waiting.{Waiting, waits_for}
use Rattle.track_shelf.specs.Memory.{encode_shelf}
use Rattle.track_shelf.specs.Both.{Both, both_formed, decode_both, encode_both, commit_both, on_both}
use Rattle.track_shelf.proofs.Boths as B
use Rattle.track_shelf.proofs.Boths.{ValidBoth, on-encode}
use Rattle.track.specs.Track.{left_by, put_summary, track_report, tried_all, arrival}
use Rattle.track.specs.Calls.{Call, report, summary, act, runs}
use Rattle.track.specs.Shelved.{is_for, is_early, reports_of, EarlyAsLate}
use Rattle.track.proofs.Leaving.{left_after}
use Rattle.track.proofs.Kept.{act-valid}

-- ---- calls on a track and its shelf, and on their bytes

left_of_calls : Both → List Call → Both
left_of_calls b [] = b
left_of_calls b (c ∷ cs) = left_of_calls (left_by b (act c b)) cs

left-encoded : (b : Both) (o : Transition Both) → (commit_both (encode b.track) (encode_shelf b.shelf) o).left ≡ encode_both (left_by b o)
left-encoded b (refused n) = refl
left-encoded b (done n t) = refl

runs-encoded : (cs : List Call) (b : Both) → ValidBoth b → runs (encode_both b) cs ≡ encode_both (left_of_calls b cs)
unfolding runs left_of_calls
runs-encoded [] b v = refl
runs-encoded (c ∷ cs) b v =
    let is : (on_both (act c) (encode b.track) (encode_shelf b.shelf)).left ≡ encode_both (left_by b (act c b)) =
    ap (λ (a : After (List ℕ × List ℕ)). a.left) (on-encode b v (act c)) ∙ left-encoded b (act c b) in
    ap (λ (p : List ℕ × List ℕ). runs p cs) is ∙ runs-encoded cs (left_by b (act c b)) (left_after ValidBoth b (act c b) v (act-valid c b v))

-- ---- the places that reports take which wait for one model

abbrev place : ℕ → ℕ × List ℕ → Waiting
place model x = record { model = model; engine = x.0; record_bytes = x.1 }

for-it : (model : ℕ) (o : Option ℕ) → is_for model o ≡ true → o ≡ Some model
for-it model None h = clash h refl
for-it model (Some m) h = ap Some (eqb-true m model h)

tried-append : (fs gs : List Waiting) (u : Both) → tried_all u (fs ++ gs) ≡ tried_all (tried_all u fs) gs
unfolding tried_all
tried-append [] gs u = refl
tried-append (f ∷ fs) gs u = tried-append fs gs (left_by u (track_report f.engine f.record_bytes u))

module _ (model : ℕ) where
  abbrev places : List (ℕ × List ℕ) → List Waiting
  places xs = map (place model) xs

  abbrev others : Waiting → Bool
  others w = not (waits_for model w)

  all-wait : (xs : List (ℕ × List ℕ)) → filter (waits_for model) (places xs) ≡ places xs
  all-wait [] = refl
  all-wait (x ∷ xs) = rw (eq-eqb model model refl) (ap (λ (l : List Waiting). place model x ∷ l) (all-wait xs))

  none-else : (xs : List (ℕ × List ℕ)) → filter others (places xs) ≡ []
  none-else [] = refl
  none-else (x ∷ xs) = rw (eq-eqb model model refl) (none-else xs)

  -- a report that waits for the model takes the place behind the others
  early-left : (b : Both) (x : ℕ × List ℕ) → is_early model b.track x ≡ true → length b.shelf < max_waiting → left_by b (act (report x.0 x.1) b) ≡ record { track = b.track; shelf = b.shelf ++ (place model x ∷ []) }
  early-left b x h room =
      let first = is_for model (first_missing b.track.summaries x.1) in
      let free = not (bit b.track.convicted x.0) in
      let f : R.well_formed x.1 ≡ true = and_left (R.well_formed x.1) (leb x.0 max_engine && (free && first)) h in
      let g : (leb x.0 max_engine && (free && first)) ≡ true = and_right (R.well_formed x.1) (leb x.0 max_engine && (free && first)) h in
      let small : leb x.0 max_engine ≡ true = and_left (leb x.0 max_engine) (free && first) g in
      let k : (free && first) ≡ true = and_right (leb x.0 max_engine) (free && first) g in
      let c : bit b.track.convicted x.0 ≡ false = not_t (bit b.track.convicted x.0) (and_left free first k) in
      let o : first_missing b.track.summaries x.1 ≡ Some model = for-it model (first_missing b.track.summaries x.1) (and_right free first k) in
      rw (le-ltb max_engine x.0 (leb-true x.0 max_engine small), f, c, o, lt-leb max_waiting (length b.shelf) room) refl

  early-all : (xs : List (ℕ × List ℕ)) (b : Both) (cs : List Call) → list_all (is_early model b.track) xs ≡ true → length b.shelf + length xs ≤ max_waiting
      → left_of_calls b (reports_of xs ++ cs) ≡ left_of_calls (record { track = b.track; shelf = b.shelf ++ places xs }) cs
  unfolding left_of_calls
  early-all [] b cs a l = ap (λ (ws : List Waiting). left_of_calls (record { track = b.track; shelf = ws }) cs) (sym (append-nil b.shelf))
  early-all (x ∷ xs) b cs a l =
      let test : ℕ × List ℕ → Bool = is_early model b.track in
      let one = early-left b x (and_left (test x) (list_all test xs) a) (omega (arith, l)) in
      let next : Both = record { track = b.track; shelf = b.shelf ++ (place model x ∷ []) } in
      let long : length next.shelf ≡ length b.shelf + 1 = length-append b.shelf (place model x ∷ []) in
      ap (λ (u : Both). left_of_calls u (reports_of xs ++ cs)) one
      ∙ early-all xs next cs (and_right (test x) (list_all test xs) a) (omega (arith, l, long))
      ∙ ap (λ (ws : List Waiting). left_of_calls (record { track = b.track; shelf = ws }) cs) (append_assoc b.shelf (place model x ∷ []) (places xs))

  -- behind the summary they are tried
  late-all : (xs : List (ℕ × List ℕ)) (u : Both) → left_of_calls u (reports_of xs) ≡ tried_all u (places xs)
  unfolding left_of_calls tried_all
  late-all [] u = refl
  late-all (x ∷ xs) u = late-all xs (left_by u (track_report x.0 x.1 u))

  arrival-after : (t : Track) (ws : List Waiting) (xs : List (ℕ × List ℕ)) → arrival model (record { track = t; shelf = ws ++ places xs }) ≡ tried_all (arrival model (record { track = t; shelf = ws })) (places xs)
  arrival-after t ws xs =
      let rest : filter others (ws ++ places xs) ≡ filter others ws =
      filter-append others ws (places xs) ∙ ap (λ (l : List Waiting). filter others ws ++ l) (none-else xs) ∙ append-nil (filter others ws) in
      let tries : filter (waits_for model) (ws ++ places xs) ≡ filter (waits_for model) ws ++ places xs =
      filter-append (waits_for model) ws (places xs) ∙ ap (λ (l : List Waiting). filter (waits_for model) ws ++ l) (all-wait xs) in
      ap₂ (λ (l k : List Waiting). tried_all (record { track = t; shelf = l }) k) rest tries ∙ tried-append (filter (waits_for model) ws) (places xs) (record { track = t; shelf = filter others ws })

-- ---- a summary that is stored, beside any shelf

record Stored (c : Call) (model : ℕ) (s : Track) : Type 0 where
  track : Track
  is : (ws : List Waiting) → act c (record { track = s; shelf = ws }) ≡ done 0 (arrival model (record { track = track; shelf = ws }))

stored : (e model spec : ℕ) (inputs : List ℕ) (b : Both) → ((n : ℕ) → act (summary e model spec inputs) b ≡ refused n → n ≡ 0) → Stored (summary e model spec inputs) model b.track
stored e model spec inputs b f =
    let p = summary_of e model spec inputs in
    let size = not (eqb (length inputs) inputs_size) in
    let full = not (holds pair_size (take pair_size p) b.track.summaries) && leb max_summaries (length b.track.summaries) in
    by (ltb max_engine e)
    (λ a. let z = f 2 (rw a refl) in absurd (omega (arith, z)))
    (λ a. by (ltb max_model model || size)
    (λ d. let z = f 9 (rw (a, d) refl) in absurd (omega (arith, z)))
    (λ d. by (bit b.track.convicted e)
    (λ c. let z = f 4 (rw (a, d, c) refl) in absurd (omega (arith, z)))
    (λ c. by full
    (λ u. let z = f 5 (rw (a, d, c, u) refl) in absurd (omega (arith, z)))
    (λ u. record { track = put_summary model p b.track; is = λ ws. rw (a, d, c, u) refl }))))

same-left : (e model spec : ℕ) (inputs : List ℕ) (b : Both) (xs : List (ℕ × List ℕ)) → Stored (summary e model spec inputs) model b.track → list_all (is_early model b.track) xs ≡ true
    → length b.shelf + length xs ≤ max_waiting → left_of_calls b (reports_of xs ++ (summary e model spec inputs ∷ [])) ≡ left_of_calls b (summary e model spec inputs ∷ reports_of xs)
unfolding left_of_calls
same-left e model spec inputs b xs k a l =
    let s : Call = summary e model spec inputs in
    let ws : List Waiting = b.shelf ++ places model xs in
    let filled : Both = record { track = b.track; shelf = ws } in
    let after : Both = arrival model (record { track = k.track; shelf = b.shelf }) in
    let first : left_of_calls filled (s ∷ []) ≡ arrival model (record { track = k.track; shelf = ws }) = ap (left_by filled) (k.is ws) in
    let second : left_of_calls b (s ∷ reports_of xs) ≡ left_of_calls after (reports_of xs) = ap (λ (o : Transition Both). left_of_calls (left_by b o) (reports_of xs)) (k.is b.shelf) in
    early-all model xs b (s ∷ []) a l ∙ first ∙ arrival-after model k.track b.shelf xs ∙ sym (late-all model xs after) ∙ sym second

-- ---- on the bytes

refused-answers : (f : Both → Transition Both) (m w : List ℕ) (n : ℕ) → both_formed m w ≡ true → f (decode_both m w) ≡ refused n → (on_both f m w).answer ≡ n
unfolding on_both
refused-answers f m w n h q = rw (h, q) refl

pub early-as-late : EarlyAsLate
early-as-late m w xs e model spec inputs y h a l z =
    let s : Call = summary e model spec inputs in
    let b = decode_both m w in
    let v = B.decode-valid m w h y in
    let back : encode_both b ≡ (m, w) = B.encode-decode m w h y in
    let k = stored e model spec inputs b (λ n q. sym (refused-answers (act s) m w n h q) ∙ z) in
    sym (ap (λ (p : List ℕ × List ℕ). runs p (reports_of xs ++ (s ∷ []))) back)
    ∙ runs-encoded (reports_of xs ++ (s ∷ [])) b v
    ∙ ap encode_both (same-left e model spec inputs b xs k a l)
    ∙ sym (runs-encoded (s ∷ reports_of xs) b v)
    ∙ ap (λ (p : List ℕ × List ℕ). runs p (s ∷ reports_of xs)) back
