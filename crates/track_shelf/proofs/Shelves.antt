-- Shelves and their bytes, both ways.
use Prim.Native.Nat.{ℕ, zero, suc, ◌*◌, ◌≤◌, ◌<◌}
use mathlib.Core.Path.{◌≡◌, refl, sym, ap, ap₂, ◌∙◌}
use mathlib.Core.Bool.{Bool, true, false, not, ◌&&◌}
use mathlib.Core.List.{List, [], ◌∷◌, map}
use native.Mathlib.Omega.{arith}
use lib.Dec.{leb, eqb}
use lib.ListN.{length, get_or, drop, length-drop, length-map, replicate-append-replicate}
use lib.Seq.{drop-cons}
use borrow.Author.Tests.{eqb-true, leb-true, eq-eqb, le-leb, ne_eqb}
use Rattle.std.specs.List.{list_all}
use Rattle.std.proofs.lemmas.List.Folds.{list_all-map}
use Rattle.lists.proofs.Bools.{and_left, and_right, and_both}
use Rattle.octets.specs.Masks.{bit}
use Rattle.octets.specs.Runs.{all_zero}
use Rattle.tables.specs.Places.{places, flat, table_of}
use Rattle.tables.proofs.Tables.{wide, length-places, places-wide, places-of-table, filled-table, table-length}
use Rattle.tables.proofs.Testing.{all-weaken}
use Rattle.record.specs.Fields.{models}
use Rattle.record.specs.Formed as R
use Rattle.record.specs.Relations.{member}
use Rattle.record.proofs.Parts as P
use Rattle.engines.specs.Limits.{max_engine}
use Rattle.models.specs.Models.{state_of}
use Rattle.models.specs.Missing.{is_missing}
use Rattle.track_memory.proofs.Blocks.{filled_of}
use Rattle.track_shelf.specs.Layout as L
use Rattle.track_shelf.specs.Waiting.{Waiting, may_wait}
use Rattle.track_shelf.specs.Memory.{waiting_in, waiting_bytes, waiting_count, shelf_formed, decode_shelf, encode_shelf, fresh_shelf}
use Rattle.track_shelf.specs.Steps.{place_holds, places_in_use, Sound}

-- ---- a place

pub place-back : (p : List ℕ) → length p ≡ L.place_size → waiting_bytes (waiting_in p) ≡ p
place-back [] e = absurd (omega (arith, e))
place-back (a ∷ []) e = absurd (omega (arith, e))
place-back (a ∷ (b ∷ r)) e = refl

pub places_back : (ps : List (List ℕ)) → wide L.place_size ps → map waiting_bytes (map waiting_in ps) ≡ ps
places_back [] h = refl
places_back (p ∷ ps) h = ap₂ ◌∷◌ (place-back p h.0) (places_back ps h.1)

pub fixes-back : (ws : List Waiting) → map waiting_in (map waiting_bytes ws) ≡ ws
fixes-back [] = refl
fixes-back (w ∷ ws) = ap (λ (l : List Waiting). w ∷ l) (fixes-back ws)

pub holds-at : (test : List ℕ → Bool) (ps : List (List ℕ)) (i : ℕ) → list_all test ps ≡ true → i < length ps → test (get_or ps i []) ≡ true
holds-at test [] i a h = absurd (omega (arith, h))
holds-at test (p ∷ ps) zero a h = and_left (test p) (list_all test ps) a
holds-at test (p ∷ ps) (suc i) a h = holds-at test ps i (and_right (test p) (list_all test ps) a) (omega (arith, h))

-- ---- what may wait

module _ (c : ℕ) (ss : List (List ℕ)) where
  module _ (w : Waiting) (h : may_wait c ss w ≡ true) where
    abbrev t₅ : Bool
    t₅ = is_missing (state_of w.model ss)

    abbrev t₄ : Bool
    t₄ = member w.model (models w.record_bytes) && t₅

    abbrev t₃ : Bool
    t₃ = not (bit c w.engine) && t₄

    abbrev t₂ : Bool
    t₂ = leb w.engine max_engine && t₃

    pub has-record : R.well_formed w.record_bytes ≡ true
    has-record = and_left (R.well_formed w.record_bytes) t₂ h

    pub has-engine : leb w.engine max_engine ≡ true
    has-engine = and_left (leb w.engine max_engine) t₃ (and_right (R.well_formed w.record_bytes) t₂ h)

    after-engine : t₃ ≡ true
    after-engine = and_right (leb w.engine max_engine) t₃ (and_right (R.well_formed w.record_bytes) t₂ h)

    pub is-free : not (bit c w.engine) ≡ true
    is-free = and_left (not (bit c w.engine)) t₄ after-engine

    pub is-cited : member w.model (models w.record_bytes) ≡ true
    is-cited = and_left (member w.model (models w.record_bytes)) t₅ (and_right (not (bit c w.engine)) t₄ after-engine)

    -- it waits for a model that has no summary
    pub in-need : is_missing (state_of w.model ss) ≡ true
    in-need = and_right (member w.model (models w.record_bytes)) t₅ (and_right (not (bit c w.engine)) t₄ after-engine)

    pub fix_size : length (waiting_bytes w) ≡ L.place_size
    fix_size = let s = (P.formed w.record_bytes has-record).size in omega (arith, s)

  waits-holds : (p : List ℕ) → may_wait c ss (waiting_in p) ≡ true → place_holds p ≡ true
  waits-holds p h =
      and_both (leb (waiting_in p).engine max_engine) (R.well_formed (waiting_in p).record_bytes) (has-engine (waiting_in p) h) (has-record (waiting_in p) h)

  pub fixes-wide : (ws : List Waiting) → list_all (may_wait c ss) ws ≡ true → wide L.place_size (map waiting_bytes ws)
  fixes-wide [] h = tt
  fixes-wide (w ∷ ws) h = (fix_size w (and_left (may_wait c ss w) (list_all (may_wait c ss) ws) h), fixes-wide ws (and_right (may_wait c ss w) (list_all (may_wait c ss) ws) h))

  -- ---- what bytes that are a shelf show

  pub record Opened (m : List ℕ) : Type 0 where
    pub size : length m ≡ L.shelf_size
    pub few : waiting_count m ≤ L.max_waiting
    pub wait : list_all (λ p. may_wait c ss (waiting_in p)) (places_in_use m) ≡ true
    pub zeros : all_zero (drop (waiting_count m * L.place_size) (drop L.places_at m)) ≡ true

  pub opened : (m : List ℕ) → shelf_formed c ss m ≡ true → Opened m
  unfolding shelf_formed
  opened m h =
      let a₁ = eqb (length m) L.shelf_size in
      let a₂ = leb (waiting_count m) L.max_waiting in
      let a₃ = list_all (λ (p : List ℕ). may_wait c ss (waiting_in p)) (places_in_use m) in
      let a₄ = all_zero (drop (waiting_count m * L.place_size) (drop L.places_at m)) in
      let h₂ = and_right a₁ (a₂ && (a₃ && a₄)) h in
      let h₃ = and_right a₂ (a₃ && a₄) h₂ in
      record {
        size = eqb-true (length m) L.shelf_size (and_left a₁ (a₂ && (a₃ && a₄)) h);
        few = leb-true (waiting_count m) L.max_waiting (and_left a₂ (a₃ && a₄) h₂);
        wait = and_left a₃ a₄ h₃;
        zeros = and_right a₃ a₄ h₃;
      }

  pub sound : (m : List ℕ) → shelf_formed c ss m ≡ true → Sound m
  sound m h =
      let o = opened m h in
      record {
        size = o.size;
        few = o.few;
        hold = all-weaken (λ p. may_wait c ss (waiting_in p)) place_holds waits-holds (places_in_use m) o.wait;
        zeros = o.zeros;
      }

  -- each of its fixes may wait
  pub all-wait : (m : List ℕ) → shelf_formed c ss m ≡ true → list_all (may_wait c ss) (decode_shelf m) ≡ true
  unfolding decode_shelf
  all-wait m h = list_all-map (may_wait c ss) waiting_in (places_in_use m) ∙ (opened m h).wait

pub other_size : (c : ℕ) (ss : List (List ℕ)) (m : List ℕ) → (length m ≡ L.shelf_size → ⊥) → shelf_formed c ss m ≡ false
unfolding shelf_formed
other_size c ss m f = rw (ne_eqb (length m) L.shelf_size f) refl

pub decode-length : (m : List ℕ) → length (decode_shelf m) ≡ waiting_count m
unfolding decode_shelf
decode-length m = length-map (places_in_use m) waiting_in ∙ length-places L.place_size (waiting_count m) (drop L.places_at m)

-- ---- from bytes to a shelf and back

module _ (m : List ℕ) (o : Sound m) where
  pub behind-length : length (drop L.places_at m) ≡ L.max_waiting * L.place_size
  behind-length = let s = o.size in rw length-drop (omega (arith, s))

  pub in-use-wide : wide L.place_size (places_in_use m)
  in-use-wide = let f = o.few in let b = behind-length in places-wide L.place_size (waiting_count m) (drop L.places_at m) (rw b (omega (arith, f)))

  pub bytes-of-fixes : map waiting_bytes (decode_shelf m) ≡ places_in_use m
  unfolding decode_shelf
  bytes-of-fixes = places_back (places_in_use m) in-use-wide

  pub behind-is : drop L.places_at m ≡ table_of L.place_size L.max_waiting (map waiting_bytes (decode_shelf m))
  behind-is = filled-table L.place_size L.max_waiting (waiting_count m) (drop L.places_at m) behind-length o.few o.zeros ∙ ap (table_of L.place_size L.max_waiting) (sym bytes-of-fixes)

  pub headed : m ≡ waiting_count m ∷ drop L.places_at m
  headed = let s = o.size in drop-cons m 0 0 (omega (arith, s))

  pub encode-decode : encode_shelf (decode_shelf m) ≡ m
  unfolding encode_shelf
  encode-decode = ap₂ ◌∷◌ (decode-length m) (sym behind-is) ∙ sym headed

-- ---- from a shelf to bytes and back

module _ (c : ℕ) (ss : List (List ℕ)) (ws : List Waiting) (few : length ws ≤ L.max_waiting) (wait : list_all (may_wait c ss) ws ≡ true) where
  abbrev bs : List (List ℕ)
  bs = map waiting_bytes ws

  bs-wide : wide L.place_size bs
  bs-wide = fixes-wide c ss ws wait

  bs-length : length bs ≡ length ws
  bs-length = length-map ws waiting_bytes

  places-are : places L.place_size (length ws) (table_of L.place_size L.max_waiting bs) ≡ bs
  places-are = ap (λ (n : ℕ). places L.place_size n (table_of L.place_size L.max_waiting bs)) (sym bs-length) ∙ places-of-table L.place_size L.max_waiting bs bs-wide

  pub decode-encode : decode_shelf (encode_shelf ws) ≡ ws
  unfolding decode_shelf encode_shelf
  decode-encode = ap (map waiting_in) places-are ∙ fixes-back ws

  all-passes : list_all (λ p. may_wait c ss (waiting_in p)) bs ≡ true
  all-passes = sym (list_all-map (may_wait c ss) waiting_in bs) ∙ ap (list_all (may_wait c ss)) (fixes-back ws) ∙ wait

  -- the bytes of fixes that may wait are a shelf
  pub formed-encode : shelf_formed c ss (encode_shelf ws) ≡ true
  unfolding shelf_formed encode_shelf
  formed-encode =
      let t = table_of L.place_size L.max_waiting bs in
      let test = λ (p : List ℕ). may_wait c ss (waiting_in p) in
      let l : length t ≡ L.max_waiting * L.place_size = table-length L.place_size L.max_waiting bs bs-wide (rw bs-length few) in
      let z : (list_all test (places L.place_size (length ws) t) && all_zero (drop (length ws * L.place_size) t)) ≡ true = rw (sym bs-length) (filled_of test L.place_size L.max_waiting bs bs-wide all-passes) in
      and_both (eqb (length (length ws ∷ t)) L.shelf_size) (leb (length ws) L.max_waiting && (list_all test (places L.place_size (length ws) t) && all_zero (drop (length ws * L.place_size) t)))
      (eq-eqb (length (length ws ∷ t)) L.shelf_size (omega (arith, l)))
      (and_both (leb (length ws) L.max_waiting) (list_all test (places L.place_size (length ws) t) && all_zero (drop (length ws * L.place_size) t)) (le-leb (length ws) L.max_waiting few) z)

-- ---- a fresh shelf

pub fresh-encoded : encode_shelf [] ≡ fresh_shelf
unfolding encode_shelf flat
fresh-encoded = replicate-append-replicate L.places_at (L.max_waiting * L.place_size) 0

pub fresh-formed : (c : ℕ) (ss : List (List ℕ)) → shelf_formed c ss fresh_shelf ≡ true
fresh-formed c ss = ap (shelf_formed c ss) (sym fresh-encoded) ∙ formed-encode c ss [] (omega arith) refl

pub fresh_empty : decode_shelf fresh_shelf ≡ []
fresh_empty = ap decode_shelf (sym fresh-encoded) ∙ decode-encode 0 [] [] (omega arith) refl
