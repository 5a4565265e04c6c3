-- A register of the layout before, carried over: it is a register, and shows the fixes that it showed.
use Rattle.std.proofs.Common.{ℕ, zero, suc, ◌+◌, ◌*◌, ◌-◌, ◌≤◌, ◌≡◌, refl, sym, ap, ap₂, ◌∙◌, true, not, ◌&&◌, List, [], ◌∷◌, ◌++◌, arith, leb, eqb, suc-mul, zero-mul, length, map, take, drop, replicate, length-append, length-drop, length-take-le, take-append-drop, take_at, drop_at, drop-drop, eqb-true, leb-true}
use Rattle.std.proofs.lemmas.List.{map-append, length-map, take-append-le, drop-append-le}
use Rattle.std.specs.Int.Bits.{bit_and}
use Rattle.std.specs.List.{list_all, filter}
use lib.ListN.{length-replicate, replicate-append-replicate}
use Rattle.lists.proofs.Bools.{by, and_left, and_right}
use Rattle.octets.specs.Order.{is_before}
use Rattle.octets.specs.Runs.{all_zero}
use Rattle.octets.specs.Words.{word, word_at}
use Rattle.octets.proofs.Zeros.{zero-run, run-zero, zeros-parted}
use Rattle.tables.specs.Places.{places, flat, is_table, ascending_from, ascending}
use Rattle.tables.proofs.Tables.{wide, flat_append, flat-length, places-flat, length-places, places-wide}
use Rattle.record.specs.Before as Before
use Rattle.record.specs.Layout.{record_size}
use Rattle.record.specs.Formed as Formed
use Rattle.record.specs.Value.{Value}
use Rattle.record.proofs.Carried.{carried_over}
use Rattle.models.specs.Summary.{summary_size}
use Rattle.models.specs.Limits.{max_summaries, summaries_size}
use Rattle.models.specs.Models.{counts, all_agreed}
use Rattle.models.specs.Summaries.{summary_formed}
use Rattle.models.proofs.Carried.{identity_carried_over}
use Rattle.signed_records.specs.Signed as Signed
use Rattle.register.specs.Layout as L
use Rattle.register.specs.Memory as Now
use Rattle.fixes.specs.Fix.{Fix}
use Rattle.board_fixes.specs.Fixes.{fixes_of, fix_of_place, unite, enter, enter_all}
use Rattle.board.specs.Carried.{place_size, register_size, record_in, signers_in, records_in, place_formed, well_formed, widened_place, widened, fix_before, counted_before, fixes_before, widened_fix, RegisterCarriedOver}

-- ---- a place

now-long : (r : List ℕ) → Formed.well_formed r ≡ true → length r ≡ record_size
unfolding Formed.well_formed
now-long r h = eqb-true _ _ (and_left _ _ h)

before-long : (r : List ℕ) → Before.well_formed r ≡ true → length r ≡ Before.record_size
unfolding Before.well_formed
before-long r h = eqb-true _ _ (and_left _ _ h)

-- what a place before shows
record Place (c : ℕ) (p : List ℕ) : Type 0 where
  wide : length p ≡ place_size
  formed : Before.well_formed (record_in p) ≡ true
  signed : (not (eqb (signers_in p) 0) && eqb (bit_and (signers_in p) c) 0) ≡ true

module _ (c : ℕ) (p : List ℕ) (x : Place c p) where
  long : length (Before.widened (record_in p)) ≡ record_size
  long = now-long (Before.widened (record_in p)) (carried_over.valid (record_in p) x.formed)

  key : take record_size (widened_place p) ≡ Before.widened (record_in p)
  key = take_at (Before.widened (record_in p)) (drop Before.record_size p) record_size long

  behind : drop record_size (widened_place p) ≡ drop Before.record_size p
  behind = drop_at (Before.widened (record_in p)) (drop Before.record_size p) record_size long

  wider : length (widened_place p) ≡ Signed.place_size
  wider = length-append (Before.widened (record_in p)) (drop Before.record_size p) ∙ (let l = long in let d = length-drop Before.record_size p in let w = x.wide in omega (arith, l, d, w))

  formed-now : Signed.place_formed c (widened_place p) ≡ true
  formed-now = rw (key, behind, carried_over.valid (record_in p) x.formed) x.signed

-- all of a list are
Places : ℕ → List (List ℕ) → Type 0
Places c [] = Unit {0}
Places c (p ∷ ps) = Place c p × Places c ps

all-places : (c : ℕ) (ps : List (List ℕ)) → wide place_size ps → list_all (place_formed c) ps ≡ true → Places c ps
unfolding Places
all-places c [] w h = tt
all-places c (p ∷ ps) w h =
    let o = and_left (place_formed c p) (list_all (place_formed c) ps) h in
    (record { wide = w.0; formed = and_left _ _ o; signed = and_right (Before.well_formed (record_in p)) _ o }, all-places c ps w.1 (and_right (place_formed c p) _ h))

module _ (c : ℕ) where
  wide-now : (ps : List (List ℕ)) → Places c ps → wide Signed.place_size (map widened_place ps)
  unfolding Places
  wide-now [] x = tt
  wide-now (p ∷ ps) x = (wider c p x.0, wide-now ps x.1)

  all-now : (ps : List (List ℕ)) → Places c ps → list_all (Signed.place_formed c) (map widened_place ps) ≡ true
  unfolding Places
  all-now [] x = refl
  all-now (p ∷ ps) x = rw (formed-now c p x.0, all-now ps x.1) refl

  from-now : (r : List ℕ) (ps : List (List ℕ)) → length r ≡ Before.record_size → Places c ps
      → ascending_from record_size (Before.widened r) (map widened_place ps) ≡ ascending_from Before.record_size r ps
  unfolding Places ascending_from
  from-now r [] l x = refl
  from-now r (p ∷ ps) l x =
      let k = before-long (record_in p) x.0.formed in
      rw (key c p x.0, carried_over.order r (record_in p) l k, from-now (record_in p) ps k x.1) refl

  ascending-now : (ps : List (List ℕ)) → Places c ps → ascending record_size (map widened_place ps) ≡ ascending Before.record_size ps
  unfolding Places ascending
  ascending-now [] x = refl
  ascending-now (p ∷ ps) x = rw (key c p x.0) (from-now (record_in p) ps (before-long (record_in p) x.0.formed) x.1)

-- ---- the table of records

-- the first places of more
places-parted : (v n m : ℕ) (t : List ℕ) → n ≤ m → places v m t ≡ places v n t ++ places v (m - n) (drop (n * v) t)
unfolding places
places-parted v zero m t h = ap₂ (λ (k l : ℕ). places v k (drop l t)) (let e : m ≡ m - 0 = omega arith in e) (sym (zero-mul v))
places-parted v (suc n) zero t h = absurd (omega arith)
places-parted v (suc n) (suc m) t h =
    let e : m - n ≡ suc m - suc n = omega arith in
    ap (λ (l : List (List ℕ)). take v t ∷ l)
    (places-parted v n m (drop v t) (omega arith)
    ∙ ap₂ (λ (k : ℕ) (l : List ℕ). places v n (drop v t) ++ places v k l) e (drop-drop (n * v) v t ∙ ap (λ (k : ℕ). drop k t) (let o = suc-mul n v in omega (arith, o))))

zero-place : widened_place (replicate place_size 0) ≡ replicate Signed.place_size 0
zero-place = refl

-- places that are not in use are zeros before and after
unused : (k : ℕ) (z : List ℕ) → length z ≡ k * place_size → all_zero z ≡ true → flat (map widened_place (places place_size k z)) ≡ replicate (k * Signed.place_size) 0
unfolding places flat
unused zero z l h = refl
unused (suc k) z l h =
    let o = suc-mul k place_size in
    let y : (all_zero (take place_size z) && all_zero (drop place_size z)) ≡ true = sym (zeros-parted place_size z) ∙ h in
    let n : length (take place_size z) ≡ place_size = length-take-le place_size z (omega (arith, l, o)) in
    let f : take place_size z ≡ replicate place_size 0 = zero-run (take place_size z) (and_left _ _ y) ∙ ap (λ (i : ℕ). replicate i 0) n in
    let d = length-drop place_size z in
    ap₂ (λ (a b : List ℕ). a ++ b) (ap widened_place f ∙ zero-place) (unused k (drop place_size z) (omega (arith, l, o, d)) (and_right (all_zero (take place_size z)) _ y))
    ∙ replicate-append-replicate Signed.place_size (k * Signed.place_size) 0
    ∙ ap (λ (i : ℕ). replicate i 0) (let q = suc-mul k Signed.place_size in omega (arith, q))

module _ (c n : ℕ) (t : List ℕ) (size : length t ≡ L.max_records * place_size) (few : n ≤ L.max_records) (sorted : is_table Before.record_size place_size n t ≡ true)
    (held : list_all (place_formed c) (places place_size n t) ≡ true) where
  abbrev ps : List (List ℕ)
  ps = places place_size n t

  abbrev now : List ℕ
  now = flat (map widened_place (places place_size L.max_records t))

  good : Places c ps
  good = all-places c ps (places-wide place_size n t (omega (arith, size, few))) held

  abbrev spare : ℕ
  spare = (L.max_records - n) * Signed.place_size

  now-is : now ≡ flat (map widened_place ps) ++ replicate spare 0
  now-is =
      let rest = drop (n * place_size) t in
      let d = length-drop (n * place_size) t in
      ap (λ (l : List (List ℕ)). flat (map widened_place l)) (places-parted place_size n L.max_records t few)
      ∙ ap flat (map-append widened_place ps (places place_size (L.max_records - n) rest))
      ∙ flat_append (map widened_place ps) (map widened_place (places place_size (L.max_records - n) rest))
      ∙ ap (λ (l : List ℕ). flat (map widened_place ps) ++ l) (unused (L.max_records - n) rest (omega (arith, size, few, d)) (and_right (ascending Before.record_size ps) _ sorted))

  count : length (map widened_place ps) ≡ n
  count = length-map ps widened_place ∙ length-places place_size n t

  used-long : length (flat (map widened_place ps)) ≡ n * Signed.place_size
  used-long = flat-length Signed.place_size (map widened_place ps) (wide-now c ps good) ∙ ap (λ (k : ℕ). k * Signed.place_size) count

  now-long-enough : length now ≡ L.records_size
  now-long-enough =
      ap length now-is ∙ length-append (flat (map widened_place ps)) (replicate spare 0)
      ∙ (let u = used-long in let r = length-replicate {A = ℕ} spare 0 in omega (arith, u, r, few))

  now-places : places Signed.place_size n now ≡ map widened_place ps
  now-places =
      ap (places Signed.place_size n) now-is
      ∙ ap (λ (k : ℕ). places Signed.place_size k (flat (map widened_place ps) ++ replicate spare 0)) (sym count)
      ∙ places-flat Signed.place_size (map widened_place ps) (replicate spare 0) (wide-now c ps good)

  now-table : is_table record_size Signed.place_size n now ≡ true
  now-table =
      let z : drop (n * Signed.place_size) now ≡ replicate spare 0 = ap (drop (n * Signed.place_size)) now-is ∙ drop_at (flat (map widened_place ps)) (replicate spare 0) (n * Signed.place_size) used-long in
      rw (now-places, z, ascending-now c ps good, and_left (ascending Before.record_size ps) (all_zero (drop (n * place_size) t)) sorted) (run-zero spare)

-- ---- the register

-- what is read before the records does not depend on them
module _ (x y z : List ℕ) (l : length x ≡ L.records_at) where
  number-of : (at n : ℕ) → at + n ≤ L.records_at → word_at n at (x ++ y) ≡ word_at n at (x ++ z)
  number-of at n h = ap word (seen y ∙ sym (seen z))
    where
      seen : (u : List ℕ) → take n (drop at (x ++ u)) ≡ take n (drop at x)
      seen u = ap (take n) (drop-append-le at x u (omega (arith, l, h))) ∙ take-append-le n (drop at x) u (let d = length-drop at x in omega (arith, d, l, h))

  summaries-of : Now.summary_table (x ++ y) ≡ Now.summary_table (x ++ z)
  summaries-of = seen y ∙ sym (seen z)
    where
      seen : (u : List ℕ) → take summaries_size (drop L.summaries_at (x ++ u)) ≡ take summaries_size (drop L.summaries_at x)
      seen u = ap (take summaries_size) (drop-append-le L.summaries_at x u (omega (arith, l))) ∙ take-append-le summaries_size (drop L.summaries_at x) u (let d = length-drop L.summaries_at x in omega (arith, d, l))

-- what a register of the layout before shows
record Opened (m : List ℕ) : Type 0 where
  size : length m ≡ register_size
  few_summaries : leb (Now.summary_count m) max_summaries ≡ true
  few_records : leb (Now.record_count m) L.max_records ≡ true
  summaries_sorted : is_table summary_size summary_size (Now.summary_count m) (Now.summary_table m) ≡ true
  summaries_formed : list_all (summary_formed (Now.convicted_in m)) (Now.summaries_in m) ≡ true
  records_sorted : is_table Before.record_size place_size (Now.record_count m) (Now.record_table m) ≡ true
  records_formed : list_all (place_formed (Now.convicted_in m)) (records_in m) ≡ true

opened : (m : List ℕ) → well_formed m ≡ true → Opened m
unfolding well_formed
opened m h =
    let h₂ = and_right (eqb (length m) register_size) _ h in
    let h₃ = and_right (leb (Now.summary_count m) max_summaries) _ h₂ in
    let h₄ = and_right (leb (Now.record_count m) L.max_records) _ h₃ in
    let h₅ = and_right (is_table summary_size summary_size (Now.summary_count m) (Now.summary_table m)) _ h₄ in
    let h₆ = and_right (list_all (summary_formed (Now.convicted_in m)) (Now.summaries_in m)) _ h₅ in
    record {
      size = eqb-true _ _ (and_left _ _ h);
      few_summaries = and_left _ _ h₂;
      few_records = and_left _ _ h₃;
      summaries_sorted = and_left _ _ h₄;
      summaries_formed = and_left _ _ h₅;
      records_sorted = and_left _ _ h₆;
      records_formed = and_right (is_table Before.record_size place_size (Now.record_count m) (Now.record_table m)) _ h₆;
    }

module _ (m : List ℕ) (o : Opened m) where
  abbrev front : List ℕ
  front = take L.records_at m

  abbrev rest : List ℕ
  rest = Now.record_table m

  abbrev wider-rest : List ℕ
  wider-rest = flat (map widened_place (places place_size L.max_records rest))

  front-long : length front ≡ L.records_at
  front-long = length-take-le L.records_at m (let s = o.size in omega (arith, s))

  rest-long : length rest ≡ L.max_records * place_size
  rest-long = length-drop L.records_at m ∙ (let s = o.size in omega (arith, s))

  whole : front ++ rest ≡ m
  whole = take-append-drop L.records_at m

  few : Now.record_count m ≤ L.max_records
  few = leb-true _ _ o.few_records

  is : widened m ≡ front ++ wider-rest
  unfolding widened
  is = refl

  number : (at n : ℕ) → at + n ≤ L.records_at → word_at n at (widened m) ≡ word_at n at m
  number at n h = ap (word_at n at) is ∙ number-of front wider-rest rest front-long at n h ∙ ap (word_at n at) whole

  convicted : Now.convicted_in (widened m) ≡ Now.convicted_in m
  convicted = number L.convicted_at 4 (omega arith)

  summary-count : Now.summary_count (widened m) ≡ Now.summary_count m
  summary-count = number L.summary_count_at 2 (omega arith)

  record-count : Now.record_count (widened m) ≡ Now.record_count m
  record-count = number L.record_count_at 2 (omega arith)

  summary-table : Now.summary_table (widened m) ≡ Now.summary_table m
  summary-table = ap Now.summary_table is ∙ summaries-of front wider-rest rest front-long ∙ ap Now.summary_table whole

  record-table : Now.record_table (widened m) ≡ wider-rest
  record-table = ap (drop L.records_at) is ∙ drop_at front wider-rest L.records_at front-long

  summaries : Now.summaries_in (widened m) ≡ Now.summaries_in m
  summaries = ap₂ (places summary_size) summary-count summary-table

  records : Now.records_in (widened m) ≡ map widened_place (records_in m)
  records = ap₂ (places Signed.place_size) record-count record-table ∙ now-places (Now.convicted_in m) (Now.record_count m) rest rest-long few o.records_sorted o.records_formed

  places-good : Places (Now.convicted_in m) (records_in m)
  places-good = good (Now.convicted_in m) (Now.record_count m) rest rest-long few o.records_sorted o.records_formed

  size-now : length (widened m) ≡ L.register_size
  size-now =
      ap length is ∙ length-append front wider-rest
      ∙ (let f = front-long in let n = now-long-enough (Now.convicted_in m) (Now.record_count m) rest rest-long few o.records_sorted o.records_formed in omega (arith, f, n))

  table-now : is_table record_size Signed.place_size (Now.record_count (widened m)) (Now.record_table (widened m)) ≡ true
  table-now = ap₂ (is_table record_size Signed.place_size) record-count record-table ∙ now-table (Now.convicted_in m) (Now.record_count m) rest rest-long few o.records_sorted o.records_formed

  formed : Now.well_formed (widened m) ≡ true
  unfolding Now.well_formed
  formed =
      rw (
        size-now,
        ap (λ (n : ℕ). leb n max_summaries) summary-count ∙ o.few_summaries,
        ap (λ (n : ℕ). leb n L.max_records) record-count ∙ o.few_records,
        ap₂ (is_table summary_size summary_size) summary-count summary-table ∙ o.summaries_sorted,
        ap₂ (λ (n : ℕ) (l : List (List ℕ)). list_all (summary_formed n) l) convicted summaries ∙ o.summaries_formed,
        table-now,
        ap₂ (λ (n : ℕ) (l : List (List ℕ)). list_all (Signed.place_formed n) l) convicted records ∙ all-now (Now.convicted_in m) (records_in m) places-good,
      ) refl

-- ---- its fixes

module _ (ss : List (List ℕ)) (c : ℕ) where
  abbrev plain : List ℕ → Fix
  plain p = fix_of_place ss p

  abbrev make : List ℕ → List ℕ → List ℕ → ℕ → Fix
  make i r n s = record { identity = i; record_bytes = r; inputs = n; signers = s }

  fix-carried : (p : List ℕ) → Place c p → plain (widened_place p) ≡ widened_fix (fix_before ss p)
  fix-carried p x =
      rw (key c p x, behind c p x)
      (ap₂ (λ (i n : List ℕ). make i (Before.widened (record_in p)) n (signers_in p)) (identity_carried_over.identity ss (record_in p) x.formed) (identity_carried_over.inputs ss (record_in p) x.formed))

  counts-carried : (p : List ℕ) → Place c p → counts ss (take record_size (widened_place p)) ≡ counted_before ss p
  counts-carried p x =
      let v = carried_over.value (record_in p) x.formed in
      ap (counts ss) (key c p x) ∙ ap₂ (λ (n : ℕ) (l : List ℕ). all_agreed n l ss) (ap (λ (y : Value). y.spec) v) (ap (λ (y : Value). y.models) v)

  fixes-carried : (ps : List (List ℕ)) → Places c ps
      → map plain (filter (λ p. counts ss (take record_size p)) (map widened_place ps)) ≡ map widened_fix (map (fix_before ss) (filter (counted_before ss) ps))
  unfolding Places
  fixes-carried [] x = refl
  fixes-carried (p ∷ ps) x =
      let e = counts-carried p x.0 in
      let ih = fixes-carried ps x.1 in
      by (counted_before ss p)
      (λ h. rw (e, h) (ap₂ (λ (f : Fix) (l : List Fix). f ∷ l) (fix-carried p x.0) ih))
      (λ h. rw (e, h) ih)

-- each has a record of before
AllLong : List Fix → Type 0
AllLong [] = Unit {0}
AllLong (f ∷ fs) = (length f.record_bytes ≡ Before.record_size) × AllLong fs

united-carried : (f g : Fix) → length f.record_bytes ≡ Before.record_size → length g.record_bytes ≡ Before.record_size → unite (widened_fix f) (widened_fix g) ≡ widened_fix (unite f g)
united-carried f g k l =
    by (is_before g.record_bytes f.record_bytes)
    (λ h. rw (carried_over.order g.record_bytes f.record_bytes l k, h) refl)
    (λ h. rw (carried_over.order g.record_bytes f.record_bytes l k, h) refl)

united-long : (f g : Fix) → length f.record_bytes ≡ Before.record_size → length g.record_bytes ≡ Before.record_size → length (unite f g).record_bytes ≡ Before.record_size
united-long f g k l = by (is_before g.record_bytes f.record_bytes) (λ h. rw h l) (λ h. rw h k)

enter-carried : (f : Fix) (gs : List Fix) → length f.record_bytes ≡ Before.record_size → AllLong gs → enter (widened_fix f) (map widened_fix gs) ≡ map widened_fix (enter f gs)
unfolding enter AllLong
enter-carried f [] k a = refl
enter-carried f (g ∷ gs) k a =
    let ih = enter-carried f gs k a.1 in
    by (is_before g.identity f.identity)
    (λ h. rw h (ap (λ (l : List Fix). widened_fix g ∷ l) ih))
    (λ h. by (is_before f.identity g.identity)
    (λ i. rw (h, i) refl)
    (λ i. rw (h, i) (ap (λ (x : Fix). x ∷ map widened_fix gs) (united-carried g f a.0 k))))

enter-long : (f : Fix) (gs : List Fix) → length f.record_bytes ≡ Before.record_size → AllLong gs → AllLong (enter f gs)
unfolding enter AllLong
enter-long f [] k a = (k, tt)
enter-long f (g ∷ gs) k a =
    let ih = enter-long f gs k a.1 in
    by (is_before g.identity f.identity)
    (λ h. rw h (a.0, ih))
    (λ h. by (is_before f.identity g.identity)
    (λ i. rw (h, i) (k, a))
    (λ i. rw (h, i) (united-long g f a.0 k, a.1)))

entered-carried : (gs fs : List Fix) → AllLong gs → AllLong fs → enter_all (map widened_fix gs) (map widened_fix fs) ≡ map widened_fix (enter_all gs fs)
unfolding enter_all AllLong
entered-carried gs [] a b = refl
entered-carried gs (f ∷ fs) a b =
    ap (λ (l : List Fix). enter_all l (map widened_fix fs)) (enter-carried f gs b.0 a)
    ∙ entered-carried (enter f gs) fs (enter-long f gs b.0 a) b.1

module _ (ss : List (List ℕ)) (c : ℕ) where
  fixes-long : (ps : List (List ℕ)) → Places c ps → AllLong (map (fix_before ss) (filter (counted_before ss) ps))
  unfolding Places AllLong
  fixes-long [] x = tt
  fixes-long (p ∷ ps) x =
      by (counted_before ss p)
      (λ h. rw h (before-long (record_in p) x.0.formed, fixes-long ps x.1))
      (λ h. rw h (fixes-long ps x.1))

  fixes-same : (ps : List (List ℕ)) → Places c ps → fixes_of ss (map widened_place ps) ≡ map widened_fix (fixes_before ss ps)
  unfolding fixes_of fixes_before
  fixes-same ps x =
      ap (enter_all []) (fixes-carried ss c ps x)
      ∙ entered-carried [] (map (fix_before ss) (filter (counted_before ss) ps)) (unfold AllLong in tt) (fixes-long ps x)

pub register-carried-over : RegisterCarriedOver
unfolding Now.decode
register-carried-over m h =
    let o = opened m h in
    record {
      formed = formed m o;
      convicted = convicted m o;
      summaries = summaries m o;
      records = records m o;
      fixes = ap₂ fixes_of (summaries m o) (records m o) ∙ fixes-same (Now.summaries_in m) (Now.convicted_in m) (records_in m) (places-good m o);
    }
