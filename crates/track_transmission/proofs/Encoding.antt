-- A transmission and its bytes, both ways.
use Prim.Native.Nat.{ℕ, zero, suc, ◌+◌, ◌*◌, ◌^◌, ◌≤◌, ◌<◌}
use mathlib.Core.Path.{◌≡◌, refl, sym, ap, ap₂, ◌∙◌, subst}
use mathlib.Core.Bool.{true}
use mathlib.Core.List.Memᴰ
use mathlib.Core.List.{List, [], ◌∷◌, ◌++◌, map, append_assoc, append-nil, Memᴰ}
use native.Mathlib.Omega.{arith}
use lib.ListN.{length, get_or, take, drop, length-append, length-drop, length-map, take-append-drop}
use lib.Seq.{take_at, drop_at, drop-drop, take_all, length-take-le}
use Rattle.octets.specs.Words.{word, word_bytes, word_at}
use Rattle.octets.specs.Runs.{all_zero}
use Rattle.octets.specs.Bytes.{Bytes}
use Rattle.octets.proofs.Numbers.{bytes_take, bytes_drop, bytes-of-word, word-of-bytes, length-word-bytes, word_lt}
use Rattle.tables.specs.Places.{places, table_of}
use Rattle.tables.proofs.Tables.{wide, length-places, places-wide, table-length, places-of-table, filled-table}
use Rattle.lists.proofs.Bools.{or}
use Rattle.record.specs.Layout.{record_size}
use Rattle.decision_items.specs.Layout.{hash_size}
use Rattle.decision_items.proofs.Pairing.{taken}
use Rattle.models.specs.Identity.{set_hash, identity_from}
use Rattle.fixes.specs.Fix.{Fix}
use Rattle.track_transmission.specs.Layout as L
use Rattle.track_transmission.specs.Held.{RefusedFix, HeldTransmission}
use Rattle.track_transmission.specs.Bytes.{record_in, signers_in, inputs_in, fix_in, fix_bytes, refused_in, refused_bytes, fix_count, refused_count, fix_table, refused_table, fix_places, refused_places, transmission_in, transmission_bytes}

-- ---- values that bytes can hold

pub record ValidFix (f : Fix) : Type 0 where
  pub record-size : length f.record_bytes ≡ record_size
  pub inputs-size : length f.inputs ≡ hash_size
  pub signed : f.signers < 2 ^ 32
  pub identified : f.identity ≡ identity_from (set_hash f.record_bytes) f.inputs

pub record ValidRefused (x : RefusedFix) : Type 0 where
  pub fix : ValidFix x.fix
  pub against_size : length x.against ≡ hash_size

pub record Valid (t : HeldTransmission) : Type 0 where
  pub few : length t.fixes ≤ L.max_standing
  pub few_refused : length t.refused ≤ L.max_refused
  pub fixes : (f : Fix) → Memᴰ f t.fixes → ValidFix f
  pub refused : (x : RefusedFix) → Memᴰ x t.refused → ValidRefused x

-- the chi-squares have 64 bits
abbrev pub Bounded : HeldTransmission → Type 0
Bounded t = (x : RefusedFix) → Memᴰ x t.refused → x.chi2 < 2 ^ 64

-- ---- a fix

module _ (f : Fix) (v : ValidFix f) where
  abbrev signature : List ℕ
  signature = word_bytes 4 f.signers

  pub fix-length : length (fix_bytes f) ≡ L.fix_size
  fix-length = simp length-append (omega (arith, v.record-size, v.inputs-size, length-word-bytes 4 f.signers))

  -- with what may follow it
  module _ (r : List ℕ) where
    whole : fix_bytes f ++ r ≡ f.record_bytes ++ (signature ++ (f.inputs ++ r))
    whole = append_assoc f.record_bytes (signature ++ f.inputs) r ∙ ap (λ (l : List ℕ). f.record_bytes ++ l) (append_assoc signature f.inputs r)

    record-back : record_in (fix_bytes f ++ r) ≡ f.record_bytes
    record-back = ap (take record_size) whole ∙ take_at f.record_bytes (signature ++ (f.inputs ++ r)) record_size v.record-size

    behind-record : drop L.signers_at (fix_bytes f ++ r) ≡ signature ++ (f.inputs ++ r)
    behind-record = ap (drop L.signers_at) whole ∙ drop_at f.record_bytes (signature ++ (f.inputs ++ r)) L.signers_at v.record-size

    signers-back : signers_in (fix_bytes f ++ r) ≡ f.signers
    signers-back =
        ap (λ (l : List ℕ). word (take 4 l)) behind-record
        ∙ ap word (take_at signature (f.inputs ++ r) 4 (length-word-bytes 4 f.signers))
        ∙ word-of-bytes 4 f.signers v.signed

    inputs-back : inputs_in (fix_bytes f ++ r) ≡ f.inputs
    inputs-back =
        ap (take hash_size) (sym (drop-drop 4 L.signers_at (fix_bytes f ++ r)) ∙ ap (drop 4) behind-record ∙ drop_at signature (f.inputs ++ r) 4 (length-word-bytes 4 f.signers))
        ∙ take_at f.inputs r hash_size v.inputs-size

    pub fix-back : fix_in (fix_bytes f ++ r) ≡ f
    fix-back =
        let i : identity_from (set_hash (record_in (fix_bytes f ++ r))) (inputs_in (fix_bytes f ++ r)) ≡ f.identity = ap₂ (λ (a b : List ℕ). identity_from (set_hash a) b) record-back inputs-back ∙ sym v.identified in
        λ j. record { identity = i j; record_bytes = record-back j; inputs = inputs-back j; signers = signers-back j }

-- ---- a refused fix

module _ (x : RefusedFix) (v : ValidRefused x) where
  abbrev bits : List ℕ
  bits = word_bytes 8 x.chi2

  abbrev b : List ℕ
  b = fix_bytes x.fix

  b-length : length b ≡ L.fix_size
  b-length = fix-length x.fix v.fix

  pub refused-length : length (refused_bytes x) ≡ L.refused_size
  refused-length = simp length-append (omega (arith, v.fix.record-size, v.fix.inputs-size, length-word-bytes 4 x.fix.signers, v.against_size, length-word-bytes 8 x.chi2))

  behind-fix : drop L.against_at (refused_bytes x) ≡ x.against ++ bits
  behind-fix = drop_at b (x.against ++ bits) L.against_at b-length

  pub refused-back : x.chi2 < 2 ^ 64 → refused_in (refused_bytes x) ≡ x
  refused-back u =
      let f = fix-back x.fix v.fix (x.against ++ bits) in
      let a = ap (take hash_size) behind-fix ∙ take_at x.against bits hash_size v.against_size in
      let d : drop L.chi2_at (refused_bytes x) ≡ bits = sym (drop-drop hash_size L.against_at (refused_bytes x)) ∙ ap (drop hash_size) behind-fix ∙ drop_at x.against bits hash_size v.against_size in
      let c = ap (λ (l : List ℕ). word (take 8 l)) d ∙ ap word (take_all 8 bits (let l = length-word-bytes 8 x.chi2 in omega (arith, l))) ∙ word-of-bytes 8 x.chi2 u in
      λ j. record { fix = f j; against = a j; chi2 = c j }

-- ---- a transmission, from values to bytes and back

map_back : {A : Type 0} (to : A → List ℕ) (from : List ℕ → A) (l : List A) → ((x : A) → Memᴰ x l → from (to x) ≡ x) → map from (map to l) ≡ l
map_back to from [] e = refl
map_back to from (x ∷ l) e = ap₂ ◌∷◌ (e x (Memᴰ.head refl)) (map_back to from l (λ y m. e y (Memᴰ.tail m)))

pub map-wide : {A : Type 0} (w : ℕ) (to : A → List ℕ) (l : List A) → ((x : A) → Memᴰ x l → length (to x) ≡ w) → wide w (map to l)
map-wide w to [] e = tt
map-wide w to (x ∷ l) e = (e x (Memᴰ.head refl), map-wide w to l (λ y m. e y (Memᴰ.tail m)))

module _ (t : HeldTransmission) (v : Valid t) where
  abbrev fs : List (List ℕ)
  fs = map fix_bytes t.fixes

  abbrev rs : List (List ℕ)
  rs = map refused_bytes t.refused

  pub wide-fixes : wide L.fix_size fs
  wide-fixes = map-wide L.fix_size fix_bytes t.fixes (λ f m. fix-length f (v.fixes f m))

  pub wide-refused : wide L.refused_size rs
  wide-refused = map-wide L.refused_size refused_bytes t.refused (λ x m. refused-length x (v.refused x m))

  fixes-count : length fs ≡ length t.fixes
  fixes-count = length-map t.fixes fix_bytes

  refused-count : length rs ≡ length t.refused
  refused-count = length-map t.refused refused_bytes

  pub fixes-length : length (table_of L.fix_size L.max_standing fs) ≡ L.fixes_size
  fixes-length = table-length L.fix_size L.max_standing fs wide-fixes (rw fixes-count v.few)

  pub refused-table-length : length (table_of L.refused_size L.max_refused rs) ≡ L.refused_table_size
  refused-table-length = table-length L.refused_size L.max_refused rs wide-refused (rw refused-count v.few_refused)

  pub bytes-length : length (transmission_bytes t) ≡ L.transmission_size
  unfolding transmission_bytes
  bytes-length = rw length-append (omega (arith, fixes-length, refused-table-length))

  pub fix-table : fix_table (transmission_bytes t) ≡ table_of L.fix_size L.max_standing fs
  unfolding transmission_bytes
  fix-table = take_at (table_of L.fix_size L.max_standing fs) (table_of L.refused_size L.max_refused rs) L.fixes_size fixes-length

  pub refused-table : refused_table (transmission_bytes t) ≡ table_of L.refused_size L.max_refused rs
  unfolding transmission_bytes
  refused-table = drop_at (table_of L.fix_size L.max_standing fs) (table_of L.refused_size L.max_refused rs) L.fixes_size fixes-length

  pub fix-count-back : fix_count (transmission_bytes t) ≡ length t.fixes
  unfolding transmission_bytes
  fix-count-back = refl

  pub refused-count-back : refused_count (transmission_bytes t) ≡ length t.refused
  unfolding transmission_bytes
  refused-count-back = refl

  pub fix-places-back : fix_places (transmission_bytes t) ≡ fs
  fix-places-back =
      ap₂ (λ (n : ℕ) (l : List ℕ). places L.fix_size n l) (fix-count-back ∙ sym fixes-count) fix-table
      ∙ places-of-table L.fix_size L.max_standing fs wide-fixes

  pub refused-places-back : refused_places (transmission_bytes t) ≡ rs
  refused-places-back =
      ap₂ (λ (n : ℕ) (l : List ℕ). places L.refused_size n l) (refused-count-back ∙ sym refused-count) refused-table
      ∙ places-of-table L.refused_size L.max_refused rs wide-refused

  -- bytes of a transmission hold its fixes
  pub fixes-back : (transmission_in (transmission_bytes t)).fixes ≡ t.fixes
  unfolding transmission_in
  fixes-back = ap (map fix_in) fix-places-back ∙ map_back fix_bytes fix_in t.fixes (λ f m. ap fix_in (sym (append-nil (fix_bytes f))) ∙ fix-back f (v.fixes f m) [])

  -- and all of it
  pub decode-encode : Bounded t → transmission_in (transmission_bytes t) ≡ t
  unfolding transmission_in
  decode-encode u =
      let r = ap (map refused_in) refused-places-back ∙ map_back refused_bytes refused_in t.refused (λ x m. refused-back x (v.refused x m) (u x m)) in
      λ j. record { fixes = fixes-back j; refused = r j }

-- ---- from bytes to values and back

-- n bytes at a place are those of the number there
word-part : (p : List ℕ) → Bytes p → (at n : ℕ) → at + n ≤ length p → word_bytes n (word_at n at p) ≡ take n (drop at p)
word-part p b at n h =
    let l : length (take n (drop at p)) ≡ n = taken n at p h in
    ap (λ (x : ℕ). word_bytes x (word_at n at p)) (sym l) ∙ bytes-of-word (take n (drop at p)) (bytes_take n (drop at p) (bytes_drop at p b))

-- the bytes from a place on, n of them and the rest
cut : (at n : ℕ) (p : List ℕ) → take n (drop at p) ++ drop (at + n) p ≡ drop at p
cut at n p = ap (λ (l : List ℕ). take n (drop at p) ++ l) (sym (drop-drop n at p)) ∙ take-append-drop n (drop at p)

fix-again : (p : List ℕ) → Bytes p → L.fix_size ≤ length p → fix_bytes (fix_in p) ++ drop L.fix_size p ≡ p
fix-again p b h =
    append_assoc (record_in p) (word_bytes 4 (signers_in p) ++ inputs_in p) (drop L.fix_size p)
    ∙ ap (λ (l : List ℕ). record_in p ++ l) (append_assoc (word_bytes 4 (signers_in p)) (inputs_in p) (drop L.fix_size p)
    ∙ ap₂ (λ (x y : List ℕ). x ++ y) (word-part p b L.signers_at 4 (omega arith)) (cut L.inputs_at hash_size p)
    ∙ cut L.signers_at 4 p)
    ∙ cut 0 record_size p

pub fix-bytes-back : (p : List ℕ) → Bytes p → length p ≡ L.fix_size → fix_bytes (fix_in p) ≡ p
fix-bytes-back p b h =
    let e : drop L.fix_size p ≡ [] = ended L.fix_size p h in
    sym (append-nil (fix_bytes (fix_in p))) ∙ ap (λ (l : List ℕ). fix_bytes (fix_in p) ++ l) (sym e) ∙ fix-again p b (omega (arith, h))
  where
    ended : (n : ℕ) (l : List ℕ) → length l ≡ n → drop n l ≡ []
    ended zero [] q = refl
    ended zero (x ∷ l) q = absurd (omega arith)
    ended (suc n) [] q = refl
    ended (suc n) (x ∷ l) q = ended n l (omega arith)

pub refused-bytes-back : (p : List ℕ) → Bytes p → length p ≡ L.refused_size → refused_bytes (refused_in p) ≡ p
refused-bytes-back p b h =
    ap (λ (l : List ℕ). fix_bytes (fix_in p) ++ l)
    (ap (λ (l : List ℕ). take hash_size (drop L.against_at p) ++ l) (word-part p b L.chi2_at 8 (omega (arith, h)) ∙ take_all 8 (drop L.chi2_at p) (rw length-drop (omega (arith, h)))) ∙ cut L.against_at hash_size p)
    ∙ fix-again p b (omega (arith, h))

-- bytes in which a transmission may lie, whose unused bytes are zero
pub record Canonical (b : List ℕ) : Type 0 where
  pub bytes : Bytes b
  pub size : length b ≡ L.transmission_size
  pub few : fix_count b ≤ L.max_standing
  pub few_refused : refused_count b ≤ L.max_refused
  pub zeros : all_zero (drop (fix_count b * L.fix_size) (fix_table b)) ≡ true
  pub zeros_refused : all_zero (drop (refused_count b * L.refused_size) (refused_table b)) ≡ true

pub bytes-of-places : (w n : ℕ) (t : List ℕ) → Bytes t → (p : List ℕ) → Memᴰ p (places w n t) → Bytes p
unfolding places
bytes-of-places w zero t b p m = absurd (Memᴰ.not-nil m)
bytes-of-places w (suc n) t b p m = or (Memᴰ.cases_cons m) (λ e. rw e (bytes_take w t b)) (λ k. bytes-of-places w n (drop w t) (bytes_drop w t b) p k)

pub wide-in : (w : ℕ) (ps : List (List ℕ)) → wide w ps → (p : List ℕ) → Memᴰ p ps → length p ≡ w
wide-in w [] h p m = absurd (Memᴰ.not-nil m)
wide-in w (q ∷ ps) h p m = or (Memᴰ.cases_cons m) (λ e. rw e h.0) (λ k. wide-in w ps h.1 p k)

map-bytes : {A : Type 0} (to : A → List ℕ) (from : List ℕ → A) (l : List (List ℕ)) → ((p : List ℕ) → Memᴰ p l → to (from p) ≡ p) → map to (map from l) ≡ l
map-bytes to from [] e = refl
map-bytes to from (p ∷ l) e = ap₂ ◌∷◌ (e p (Memᴰ.head refl)) (map-bytes to from l (λ q m. e q (Memᴰ.tail m)))

-- ---- what bytes hold is valid

pub fix-valid : (p : List ℕ) → Bytes p → L.fix_size ≤ length p → ValidFix (fix_in p)
fix-valid p b h =
    let l : length (take 4 (drop L.signers_at p)) ≡ 4 = taken 4 L.signers_at p (omega arith) in
    record {
      record-size = length-take-le record_size p (omega arith);
      inputs-size = taken hash_size L.inputs_at p (omega arith);
      signed = subst (λ (n : ℕ). signers_in p < 256 ^ n) l (word_lt (take 4 (drop L.signers_at p)) (bytes_take 4 (drop L.signers_at p) (bytes_drop L.signers_at p b)));
      identified = refl;
    }

refused-valid : (p : List ℕ) → Bytes p → length p ≡ L.refused_size → ValidRefused (refused_in p)
refused-valid p b h = record { fix = fix-valid p b (omega (arith, h)); against_size = taken hash_size L.against_at p (omega (arith, h)) }

module _ (b : List ℕ) (bytes : Bytes b) (size : length b ≡ L.transmission_size) (few : fix_count b ≤ L.max_standing) (few_refused : refused_count b ≤ L.max_refused) where
  table-size : length (fix_table b) ≡ L.fixes_size
  table-size = taken L.fixes_size L.fixes_at b (omega (arith, size))

  refused-size : length (refused_table b) ≡ L.refused_table_size
  refused-size = rw length-drop (omega (arith, size))

  -- of each place its bytes, and how many they are
  pub fix-place : (p : List ℕ) → Memᴰ p (fix_places b) → Bytes p × (length p ≡ L.fix_size)
  fix-place p m = (
    bytes-of-places L.fix_size (fix_count b) (fix_table b) (bytes_take L.fixes_size (drop L.fixes_at b) (bytes_drop L.fixes_at b bytes)) p m,
    wide-in L.fix_size (fix_places b) (places-wide L.fix_size (fix_count b) (fix_table b) (omega (arith, table-size, few))) p m,
  )

  pub refused-place : (p : List ℕ) → Memᴰ p (refused_places b) → Bytes p × (length p ≡ L.refused_size)
  refused-place p m = (
    bytes-of-places L.refused_size (refused_count b) (refused_table b) (bytes_drop L.refused_at b bytes) p m,
    wide-in L.refused_size (refused_places b) (places-wide L.refused_size (refused_count b) (refused_table b) (omega (arith, refused-size, few_refused))) p m,
  )

  pub valid-in : Valid (transmission_in b)
  unfolding transmission_in
  valid-in = record {
    few = rw (length-map (fix_places b) fix_in, length-places L.fix_size (fix_count b) (fix_table b)) few;
    few_refused = rw (length-map (refused_places b) refused_in, length-places L.refused_size (refused_count b) (refused_table b)) few_refused;
    fixes = λ f m.
        let r = Memᴰ.of_map fix_in (fix_places b) m in
        let p = fix-place r.0 r.1 in
        subst ValidFix r.2 (fix-valid r.0 p.0 (omega (arith, p.1)));
    refused = λ x m.
        let r = Memᴰ.of_map refused_in (refused_places b) m in
        let p = refused-place r.0 r.1 in
        subst ValidRefused r.2 (refused-valid r.0 p.0 p.1);
  }

module _ (b : List ℕ) (c : Canonical b) where
  places-are : map fix_bytes (map fix_in (fix_places b)) ≡ fix_places b
  places-are = map-bytes fix_bytes fix_in (fix_places b) (λ p m. let q = fix-place b c.bytes c.size c.few c.few_refused p m in fix-bytes-back p q.0 q.1)

  refused-are : map refused_bytes (map refused_in (refused_places b)) ≡ refused_places b
  refused-are = map-bytes refused_bytes refused_in (refused_places b) (λ p m. let q = refused-place b c.bytes c.size c.few c.few_refused p m in refused-bytes-back p q.0 q.1)

  -- the bytes are those of what they hold
  pub encode-decode : transmission_bytes (transmission_in b) ≡ b
  unfolding transmission_bytes transmission_in
  encode-decode =
      let n : length (map fix_in (fix_places b)) ≡ fix_count b = length-map (fix_places b) fix_in ∙ length-places L.fix_size (fix_count b) (fix_table b) in
      let m : length (map refused_in (refused_places b)) ≡ refused_count b = length-map (refused_places b) refused_in ∙ length-places L.refused_size (refused_count b) (refused_table b) in
      let f = ap (table_of L.fix_size L.max_standing) places-are ∙ sym (filled-table L.fix_size L.max_standing (fix_count b) (fix_table b) (table-size b c.bytes c.size c.few c.few_refused) c.few c.zeros) in
      let r = ap (table_of L.refused_size L.max_refused) refused-are ∙ sym (filled-table L.refused_size L.max_refused (refused_count b) (refused_table b) (refused-size b c.bytes c.size c.few c.few_refused) c.few_refused c.zeros_refused) in
      ap₂ (λ (i j : ℕ). i ∷ (j ∷ (table_of L.fix_size L.max_standing (map fix_bytes (map fix_in (fix_places b))) ++ table_of L.refused_size L.max_refused (map refused_bytes (map refused_in (refused_places b)))))) n m
      ∙ ap₂ (λ (x y : List ℕ). fix_count b ∷ (refused_count b ∷ (x ++ y))) f r
      ∙ ap (λ (l : List ℕ). fix_count b ∷ (refused_count b ∷ l)) (cut L.fixes_at L.fixes_size b)
      ∙ two b (omega (arith, c.size))
    where
      two : (l : List ℕ) → 2 ≤ length l → get_or l 0 0 ∷ (get_or l 1 0 ∷ drop 2 l) ≡ l
      two [] h = absurd (omega arith)
      two (x ∷ []) h = absurd (omega arith)
      two (x ∷ (y ∷ l)) h = refl
