-- What the bytes of a formed transmission show, and that the bytes of a transmission which a track may hold are formed.
use Prim.Native.Nat.{ℕ, ◌+◌, ◌*◌, ◌-◌, ◌^◌, ◌≤◌, ◌<◌}
use mathlib.Core.Path.{◌≡◌, refl, sym, ap, ap₂, ◌∙◌}
use mathlib.Core.Bool.{Bool, true, false, not, ◌&&◌}
use mathlib.Core.List.Memᴰ
use mathlib.Core.List.{List, [], ◌∷◌, ◌++◌, map, append_assoc, append-nil, Memᴰ}
use native.Mathlib.Omega.{arith}
use lib.Bits.{bit_and}
use lib.Dec.{leb, eqb}
use lib.ListN.{length, take, drop, length-append, length-drop, length-map, replicate}
use lib.Seq.{take_at, drop_at, take-take, length-take-le}
use borrow.Author.Tests.{leb-true, le-leb, not-true}
use Rattle.lists.proofs.Bools.{and_left, and_right, and_both, or}
use Rattle.std.specs.List.{list_all}
use Rattle.octets.specs.Bytes.{Bytes}
use Rattle.octets.specs.Words.{word, word_bytes}
use Rattle.octets.specs.Runs.{all_zero}
use Rattle.octets.proofs.Numbers.{length-word-bytes}
use Rattle.octets.proofs.Zeros.{run-zero}
use Rattle.tables.specs.Places.{flat, table_of}
use Rattle.tables.proofs.Walks.{part_in}
use Rattle.tables.proofs.Tables.{wide, flat-length, places-flat, length-places, places-wide}
use Rattle.record.specs.Layout.{record_size}
use Rattle.record.specs.Formed as R
use Rattle.decision_items.proofs.Pairing.{taken}
use Rattle.signed_records.specs.Signed.{place_size, place_formed}
use Rattle.signed_records.specs.Begins.{begin_formed}
use Rattle.signed_records.specs.Signed as H
use Rattle.octets.proofs.Framing.{word_small}
use Rattle.signed_records.proofs.Signatures.{signers-at, held_place}
use Rattle.tables.proofs.Testing.{all-weaken}
use Rattle.fixes.specs.Fix.{Fix}
use Rattle.track_transmission.specs.Layout as L
use Rattle.track_transmission.specs.Held.{HeldTransmission, fix_of, held_in}
use Rattle.track_transmission.specs.Bytes.{record_in, signers_in, fix_in, fix_bytes, refused_in, refused_bytes, fix_count, refused_count, fix_table, refused_table, fix_places, refused_places, filled_by, transmission_formed, transmission_in, transmission_bytes}
use Rattle.track_transmission.specs.Parts.{record_formed, Sound}
use Rattle.track_transmission.proofs.Encoding.{ValidFix, Valid, Bounded, Canonical, wide-fixes, wide-refused, fix-table, refused-table, fix-count-back, refused-count-back, wide-in, refused-place, valid-in}

-- ---- places that all pass a test

module _ (test : List ℕ → Bool) where
  pub passes : (ps : List (List ℕ)) → list_all test ps ≡ true → (p : List ℕ) → Memᴰ p ps → test p ≡ true
  passes [] a p m = absurd (Memᴰ.not-nil m)
  passes (q ∷ ps) a p m = or (Memᴰ.cases_cons m) (λ e. ap test e ∙ and_left (test q) (list_all test ps) a) (λ k. passes ps (and_right (test q) (list_all test ps) a) p k)

  pub all_pass : (ps : List (List ℕ)) → ((p : List ℕ) → Memᴰ p ps → test p ≡ true) → list_all test ps ≡ true
  all_pass [] f = refl
  all_pass (p ∷ ps) f = and_both (test p) (list_all test ps) (f p (Memᴰ.head refl)) (all_pass ps (λ q m. f q (Memᴰ.tail m)))

  all_append : (ps qs : List (List ℕ)) → list_all test ps ≡ true → list_all test qs ≡ true → list_all test (ps ++ qs) ≡ true
  all_append [] qs a b = b
  all_append (p ∷ ps) qs a b = and_both (test p) (list_all test (ps ++ qs)) (and_left (test p) (list_all test ps) a) (all_append ps qs (and_right (test p) (list_all test ps) a) b)

  -- places that pass, in a table with zeros behind them
  pub filled_of : (w cap : ℕ) (ps : List (List ℕ)) → wide w ps → list_all test ps ≡ true → filled_by test w (length ps) (table_of w cap ps) ≡ true
  filled_of w cap ps h a =
      let z : List ℕ = replicate ((cap - length ps) * w) 0 in
      rw (places-flat w ps z h, drop_at (flat ps) z (length ps * w) (flat-length w ps h)) (and_both (list_all test ps) (all_zero z) a (run-zero ((cap - length ps) * w)))

pub of_map : {A B : Type 0} (g : A → B) (P : B → Type 0) (l : List A) → ((x : A) → Memᴰ x l → P (g x)) → (y : B) → Memᴰ y (map g l) → P y
of_map g P [] f y m = absurd (Memᴰ.not-nil m)
of_map g P (x ∷ l) f y m = or (Memᴰ.cases_cons m) (λ e. rw e (f x (Memᴰ.head refl))) (λ k. of_map g P l (λ z i. f z (Memᴰ.tail i)) y k)

pub mem-map : {A B : Type 0} (g : A → B) {x : A} (l : List A) → Memᴰ x l → Memᴰ (g x) (map g l)
mem-map g [] i = absurd (Memᴰ.not-nil i)
mem-map g (y ∷ l) i = or (Memᴰ.cases_cons i) (λ e. Memᴰ.head (ap g e)) (λ k. Memᴰ.tail (mem-map g l k))

-- ---- a fix that a track may hold where the engines c are convicted

pub record Upheld (c : ℕ) (f : Fix) : Type 0 where
  pub formed : R.well_formed f.record_bytes ≡ true
  pub signed : eqb f.signers 0 ≡ false
  pub free : eqb (bit_and f.signers c) 0 ≡ true

-- of bytes that begin with a record and its signers
module _ (c : ℕ) (p : List ℕ) (h : begin_formed c p ≡ true) where
  abbrev q : List ℕ
  q = take place_size p

  record_same : take record_size q ≡ record_in p
  record_same = take-take record_size place_size p (omega arith)

  pub begins-formed : R.well_formed (record_in p) ≡ true
  begins-formed = ap R.well_formed (sym record_same) ∙ and_left (R.well_formed (take record_size q)) (not (eqb (H.signers_in q) 0) && eqb (bit_and (H.signers_in q) c) 0) h

  module _ (l : place_size ≤ length p) where
    signers-same : H.signers_in q ≡ signers_in p
    signers-same = sym (signers-at q (length-take-le place_size p l)) ∙ ap word (part_in 4 record_size place_size p (omega arith))

    rest : (not (eqb (H.signers_in q) 0) && eqb (bit_and (H.signers_in q) c) 0) ≡ true
    rest = and_right (R.well_formed (take record_size q)) (not (eqb (H.signers_in q) 0) && eqb (bit_and (H.signers_in q) c) 0) h

    pub begins-upheld : Upheld c (fix_in p)
    begins-upheld = record {
      formed = begins-formed;
      signed = ap (λ (x : ℕ). eqb x 0) (sym signers-same) ∙ not-true (eqb (H.signers_in q) 0) (and_left (not (eqb (H.signers_in q) 0)) (eqb (bit_and (H.signers_in q) c) 0) rest);
      free = ap (λ (x : ℕ). eqb (bit_and x c) 0) (sym signers-same) ∙ and_right (not (eqb (H.signers_in q) 0)) (eqb (bit_and (H.signers_in q) c) 0) rest;
    }

-- the bytes of such a fix, whatever follows
pub begins-with : (c : ℕ) (f : Fix) → ValidFix f → Upheld c f → (z : List ℕ) → begin_formed c (fix_bytes f ++ z) ≡ true
begins-with c f v u z =
    let r = f.record_bytes in
    let s = word_bytes 4 f.signers in
    let e : fix_bytes f ++ z ≡ (r ++ s) ++ (f.inputs ++ z) = append_assoc r (s ++ f.inputs) z ∙ ap (λ (l : List ℕ). r ++ l) (append_assoc s f.inputs z) ∙ sym (append_assoc r s (f.inputs ++ z)) in
    let l : length (r ++ s) ≡ place_size = length-append r s ∙ ap₂ ◌+◌ v.record-size (length-word-bytes 4 f.signers) in
    let t : take place_size (fix_bytes f ++ z) ≡ r ++ s = ap (take place_size) e ∙ take_at (r ++ s) (f.inputs ++ z) place_size l in
    ap (place_formed c) t ∙ and_left (place_formed c (r ++ s)) _ (held_place c r u.formed f.signers v.signed u.signed u.free)

-- ---- a transmission that a track may hold

-- there may be no fix in it
pub record Kept (c : ℕ) (t : HeldTransmission) : Type 0 where
  pub valid : Valid t
  pub bounded : Bounded t
  pub held : (f : Fix) → Memᴰ f (held_in t) → Upheld c f

pub record Held (c : ℕ) (t : HeldTransmission) : Type 0 where
  pub kept : Kept c t
  pub some : 1 ≤ length t.fixes

-- ---- from bytes

pub record Parts (c : ℕ) (b : List ℕ) : Type 0 where
  pub some : 1 ≤ fix_count b
  pub few : fix_count b ≤ L.max_standing
  pub few_refused : refused_count b ≤ L.max_refused
  pub fixes : list_all (begin_formed c) (fix_places b) ≡ true
  pub zeros : all_zero (drop (fix_count b * L.fix_size) (fix_table b)) ≡ true
  pub refused : list_all (begin_formed c) (refused_places b) ≡ true
  pub zeros_refused : all_zero (drop (refused_count b * L.refused_size) (refused_table b)) ≡ true

pub parts : (c : ℕ) (b : List ℕ) → transmission_formed (begin_formed c) b ≡ true → Parts c b
unfolding transmission_formed
parts c b h =
    let a₁ = leb 1 (fix_count b) in
    let a₂ = leb (fix_count b) L.max_standing in
    let a₃ = leb (refused_count b) L.max_refused in
    let a₄ = list_all (begin_formed c) (fix_places b) in
    let a₅ = all_zero (drop (fix_count b * L.fix_size) (fix_table b)) in
    let a₆ = list_all (begin_formed c) (refused_places b) in
    let a₇ = all_zero (drop (refused_count b * L.refused_size) (refused_table b)) in
    let h₂ = and_right a₁ (a₂ && (a₃ && ((a₄ && a₅) && (a₆ && a₇)))) h in
    let h₃ = and_right a₂ (a₃ && ((a₄ && a₅) && (a₆ && a₇))) h₂ in
    let h₄ = and_right a₃ ((a₄ && a₅) && (a₆ && a₇)) h₃ in
    let f = and_left (a₄ && a₅) (a₆ && a₇) h₄ in
    let r = and_right (a₄ && a₅) (a₆ && a₇) h₄ in
    record {
      some = leb-true 1 (fix_count b) (and_left a₁ (a₂ && (a₃ && ((a₄ && a₅) && (a₆ && a₇)))) h);
      few = leb-true (fix_count b) L.max_standing (and_left a₂ (a₃ && ((a₄ && a₅) && (a₆ && a₇))) h₂);
      few_refused = leb-true (refused_count b) L.max_refused (and_left a₃ ((a₄ && a₅) && (a₆ && a₇)) h₃);
      fixes = and_left a₄ a₅ f;
      zeros = and_right a₄ a₅ f;
      refused = and_left a₆ a₇ r;
      zeros_refused = and_right a₆ a₇ r;
    }

module _ (c : ℕ) (b : List ℕ) (o : Parts c b) (size : length b ≡ L.transmission_size) where
  pub fixes-wide : wide L.fix_size (fix_places b)
  fixes-wide = places-wide L.fix_size (fix_count b) (fix_table b) (rw (taken L.fixes_size L.fixes_at b (omega (arith, size))) (let f = o.few in omega arith))

  pub refused-wide : wide L.refused_size (refused_places b)
  refused-wide = places-wide L.refused_size (refused_count b) (refused_table b) (rw length-drop (let f = o.few_refused in omega (arith, size)))

  pub sound : Sound b
  sound = record {
    size = size;
    few = o.few;
    few_refused = o.few_refused;
    formed =
        all_append record_formed (fix_places b) (map (take L.fix_size) (refused_places b))
        (all-weaken (begin_formed c) record_formed (begins-formed c) (fix_places b) o.fixes)
        (all_pass record_formed (map (take L.fix_size) (refused_places b))
        (of_map (take L.fix_size) (λ p. record_formed p ≡ true) (refused_places b)
        (λ p m. ap R.well_formed (take-take record_size L.fix_size p (omega arith)) ∙ begins-formed c p (passes (begin_formed c) (refused_places b) o.refused p m))));
  }

  -- every fix that is held is one that a track may hold
  pub block-upheld : (f : Fix) → Memᴰ f (held_in (transmission_in b)) → Upheld c f
  unfolding transmission_in
  block-upheld f i =
      let up : (p : List ℕ) → L.fix_size ≤ length p → begin_formed c p ≡ true → Upheld c (fix_in p) = λ p l h. begins-upheld c p h (omega arith) in
      or (Memᴰ.append_cases (map fix_in (fix_places b)) i)
      (of_map fix_in (Upheld c) (fix_places b) (λ p m. up p (let l = wide-in L.fix_size (fix_places b) fixes-wide p m in omega (arith, l)) (passes (begin_formed c) (fix_places b) o.fixes p m)) f)
      (of_map fix_of (Upheld c) (map refused_in (refused_places b))
      (of_map refused_in (λ x. Upheld c x.fix) (refused_places b) (λ p m. up p (let l = wide-in L.refused_size (refused_places b) refused-wide p m in omega (arith, l)) (passes (begin_formed c) (refused_places b) o.refused p m))) f)

  module _ (bytes : Bytes b) where
    pub canonical : Canonical b
    canonical = record { bytes = bytes; size = size; few = o.few; few_refused = o.few_refused; zeros = o.zeros; zeros_refused = o.zeros_refused }

    -- what the bytes hold is what a track may hold
    pub block_held : Held c (transmission_in b)
    unfolding transmission_in
    block_held = record {
      kept = record {
        valid = valid-in b bytes size o.few o.few_refused;
        bounded = of_map refused_in (λ x. x.chi2 < 2 ^ 64) (refused_places b) (λ p m. let q = refused-place b bytes size o.few o.few_refused p m in word_small p q.0 L.chi2_at 8 (omega (arith, q.1)));
        held = block-upheld;
      };
      some = rw (length-map (fix_places b) fix_in, length-places L.fix_size (fix_count b) (fix_table b)) o.some;
    }

-- ---- from values

module _ (c : ℕ) (t : HeldTransmission) (h : Held c t) where
  abbrev fs : List (List ℕ)
  fs = map fix_bytes t.fixes

  abbrev rs : List (List ℕ)
  rs = map refused_bytes t.refused

  abbrev v : Valid t
  v = h.kept.valid

  fs-begin : list_all (begin_formed c) fs ≡ true
  fs-begin = all_pass (begin_formed c) fs (of_map fix_bytes (λ p. begin_formed c p ≡ true) t.fixes (λ f m. ap (begin_formed c) (sym (append-nil (fix_bytes f))) ∙ begins-with c f (v.fixes f m) (h.kept.held f (Memᴰ.append_left (map fix_of t.refused) m)) []))

  rs-begin : list_all (begin_formed c) rs ≡ true
  rs-begin = all_pass (begin_formed c) rs (of_map refused_bytes (λ p. begin_formed c p ≡ true) t.refused (λ x m. begins-with c x.fix (v.refused x m).fix (h.kept.held x.fix (Memᴰ.append_right t.fixes (mem-map fix_of t.refused m))) (x.against ++ word_bytes 8 x.chi2)))

  abbrev b : List ℕ
  b = transmission_bytes t

  count : fix_count b ≡ length fs
  count = fix-count-back t v ∙ sym (length-map t.fixes fix_bytes)

  count-refused : refused_count b ≡ length rs
  count-refused = refused-count-back t v ∙ sym (length-map t.refused refused_bytes)

  fixes-filled : filled_by (begin_formed c) L.fix_size (fix_count b) (fix_table b) ≡ true
  fixes-filled = ap₂ (λ (n : ℕ) (l : List ℕ). filled_by (begin_formed c) L.fix_size n l) count (fix-table t v) ∙ filled_of (begin_formed c) L.fix_size L.max_standing fs (wide-fixes t v) fs-begin

  refused-filled : filled_by (begin_formed c) L.refused_size (refused_count b) (refused_table b) ≡ true
  refused-filled = ap₂ (λ (n : ℕ) (l : List ℕ). filled_by (begin_formed c) L.refused_size n l) count-refused (refused-table t v) ∙ filled_of (begin_formed c) L.refused_size L.max_refused rs (wide-refused t v) rs-begin

  pub block-formed : transmission_formed (begin_formed c) (transmission_bytes t) ≡ true
  unfolding transmission_formed
  block-formed =
      let a₁ = leb 1 (fix_count b) in
      let a₂ = leb (fix_count b) L.max_standing in
      let a₃ = leb (refused_count b) L.max_refused in
      let a₄ = filled_by (begin_formed c) L.fix_size (fix_count b) (fix_table b) in
      let a₅ = filled_by (begin_formed c) L.refused_size (refused_count b) (refused_table b) in
      let n = fix-count-back t v in
      let k = refused-count-back t v in
      and_both a₁ (a₂ && (a₃ && (a₄ && a₅))) (le-leb 1 (fix_count b) (rw n h.some))
      (and_both a₂ (a₃ && (a₄ && a₅)) (le-leb (fix_count b) L.max_standing (rw n v.few))
      (and_both a₃ (a₄ && a₅) (le-leb (refused_count b) L.max_refused (rw k v.few_refused)) (and_both a₄ a₅ fixes-filled refused-filled)))
