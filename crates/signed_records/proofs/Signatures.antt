-- Laws of records with signers: reading and writing the signers, and that a place stays formed as engines sign and are convicted.
use Rattle.std.proofs.Common.{ℕ, zero, suc, ◌+◌, ◌*◌, ◌^◌, ◌≤◌, ◌<◌, ◌≡◌, refl, sym, ap, ◌∙◌, Bool, true, false, ◌&&◌, List, [], ◌++◌, arith, eqb, length, take, drop, length-take, length-drop, take_at, drop_at, take_all, drop-drop, take-add, length-take-le}
use lib.Bits.{bit_and}
use Rattle.std.specs.List.{list_all}
use Rattle.lists.proofs.Bools.{and_left, and_right, and_both}
use Rattle.octets.specs.Bytes.{Bytes}
use Rattle.octets.specs.Masks.{bit, with_bit, without_bit}
use Rattle.octets.specs.Order.{same}
use Rattle.octets.specs.Words.{word, word_bytes, word_at}
use Rattle.octets.proofs.Comparison.{same_refl, same-eq}
use Rattle.octets.proofs.Numbers.{length-word-bytes, word-of-bytes, bytes-word-bytes, bytes-of-word, bytes_take, bytes_drop, word_lt}
use Rattle.tables.specs.Places.{places}
use Rattle.tables.proofs.Keeping.{changed}
use Rattle.record.specs.Layout.{record_size}
use Rattle.record.specs.Formed as R
use Rattle.engines.specs.Limits.{max_engine}
use Rattle.engines.proofs.Masks.{nothing-apart, with-apart, without-apart, with-some, with-small, without-small}
use Rattle.signed_records.specs.Signed.{place_size, signers_in, add_signer, drop_signer, has_another_signer, place_formed}

-- ---- the signers in a place

pub no_word : word [] ≡ 0
unfolding word
no_word = refl

pub record-length : (r : List ℕ) → R.well_formed r ≡ true → length r ≡ record_size
unfolding R.well_formed
record-length r h = grind arith

-- a record is shorter than its place, and signers with or without an engine are as long as those before
pub key_of : record_size ≤ place_size
key_of = omega arith

pub added-wide : (e : ℕ) (v : List ℕ) → record_size + length (add_signer e v) ≡ place_size
added-wide e v = ap (λ (x : ℕ). record_size + x) (length-word-bytes 4 (with_bit (word v) e))

pub signers-wide : (e : ℕ) (v : List ℕ) → record_size + length v ≡ place_size → record_size + length (drop_signer e v) ≡ place_size
signers-wide e v h = ap (λ (x : ℕ). record_size + x) (length-word-bytes 4 (without_bit (word v) e))

-- they are the 4 bytes behind the record
pub signers-at : (p : List ℕ) → length p ≡ place_size → word_at 4 record_size p ≡ signers_in p
signers-at p h = ap word (take_all 4 (drop record_size p) (rw length-drop (omega arith)))

-- of a place in a table
pub signers-there : (t : List ℕ) (at : ℕ) → at + place_size ≤ length t → word_at 4 (at + record_size) t ≡ signers_in (take place_size (drop at t))
signers-there t at h =
    let l : length (take record_size (drop at t)) ≡ record_size = length-take-le record_size (drop at t) (rw length-drop (omega arith)) in
    let d : drop record_size (take place_size (drop at t)) ≡ take 4 (drop record_size (drop at t)) = ap (drop record_size) (take-add record_size 4 (drop at t)) ∙ drop_at (take record_size (drop at t)) (take 4 (drop record_size (drop at t))) record_size l in
    ap word (ap (take 4) (sym (drop-drop record_size at t)) ∙ sym d)

module _ (r : List ℕ) (l : length r ≡ record_size) (x : ℕ) (b : x < 256 ^ 4) where
  signers-of : signers_in (r ++ word_bytes 4 x) ≡ x
  signers-of = ap word (drop_at r (word_bytes 4 x) record_size l) ∙ word-of-bytes 4 x b

-- ---- a place that is formed

-- with signers that are 4 bytes
abbrev pub place_held : ℕ → List ℕ → Bool
place_held c p = place_formed c p && same (word_bytes 4 (signers_in p)) (drop record_size p)

pub record Place (c : ℕ) (p : List ℕ) : Type 0 where
  pub formed : R.well_formed (take record_size p) ≡ true
  pub some : eqb (signers_in p) 0 ≡ false
  pub free : eqb (bit_and (signers_in p) c) 0 ≡ true
  pub bytes : drop record_size p ≡ word_bytes 4 (signers_in p)

pub place : (c : ℕ) (p : List ℕ) → place_held c p ≡ true → Place c p
place c p h = record {
  formed = grind arith;
  some = grind arith;
  free = grind arith;
  bytes = grind (arith, same-eq (word_bytes 4 (signers_in p)) (drop record_size p));
}

pub place-small : (c : ℕ) (p : List ℕ) → Place c p → signers_in p < 256 ^ 4
place-small c p h = grind (arith, word_lt (word_bytes 4 (signers_in p)) (bytes-word-bytes 4 (signers_in p)), length-word-bytes 4 (signers_in p), ap word h.bytes)

-- a record with signers that are some, none of them convicted
pub held_place : (c : ℕ) (r : List ℕ) → R.well_formed r ≡ true → (x : ℕ) → x < 256 ^ 4 → eqb x 0 ≡ false → eqb (bit_and x c) 0 ≡ true → place_held c (r ++ word_bytes 4 x) ≡ true
held_place c r w x b n a =
    let l = record-length r w in
    rw (signers-of r l x b, take_at r (word_bytes 4 x) record_size l, drop_at r (word_bytes 4 x) record_size l, w, n, a) (same_refl (word_bytes 4 x))

-- an engine that is not convicted signs a record, as the first or not
module _ (c e : ℕ) (q : List ℕ) (a : e ≤ max_engine) (w : R.well_formed q ≡ true) (z : bit c e ≡ false) where
  signed_by : (x : ℕ) → x < 256 ^ 4 → eqb (bit_and x c) 0 ≡ true → place_held c (q ++ word_bytes 4 (with_bit x e)) ≡ true
  signed_by x b f = held_place c q w (with_bit x e) (with-small x e a b) (with-some x e) (with-apart x c e f z)

  pub signed-first : place_held c (q ++ add_signer e []) ≡ true
  signed-first = signed_by (word []) (rw no_word (omega arith)) (rw no_word (nothing-apart c))

  pub signed-again : (p : List ℕ) → take record_size p ≡ q → place_held c p ≡ true → place_held c (take record_size p ++ add_signer e (drop record_size p)) ≡ true
  signed-again p k h = let o = place c p h in rw k (signed_by (signers_in p) (place-small c p o) o.free)

-- one that has another signer than the convicted
pub kept_record : (c e : ℕ) (p : List ℕ) → place_held c p ≡ true → has_another_signer e p ≡ true → place_held (with_bit c e) (changed record_size (has_another_signer e) (drop_signer e) p) ≡ true
kept_record c e p h o =
    let u = place c p h in
    held_place (with_bit c e) (take record_size p) u.formed (without_bit (signers_in p) e) (without-small (signers_in p) e (place-small c p u)) (grind arith) (without-apart (signers_in p) c e u.free)

-- ---- places of bytes

signers-bytes : (t : List ℕ) → Bytes t → place_size ≤ length t → word_bytes 4 (signers_in (take place_size t)) ≡ drop record_size (take place_size t)
signers-bytes t b l =
    let d = drop record_size (take place_size t) in
    let n : length d ≡ 4 = simp (length-drop, length-take) (omega arith) in
    ap (λ (x : ℕ). word_bytes x (word d)) (sym n) ∙ bytes-of-word d (bytes_drop record_size (take place_size t) (bytes_take place_size t b))

pub all_held : (c n : ℕ) (t : List ℕ) → Bytes t → n * place_size ≤ length t → list_all (place_formed c) (places place_size n t) ≡ true → list_all (place_held c) (places place_size n t) ≡ true
unfolding places
all_held c zero t b l a = refl
all_held c (suc n) t b l a =
    let p = take place_size t in
    let rest = places place_size n (drop place_size t) in
    and_both (place_held c p) (list_all (place_held c) rest)
    (and_both (place_formed c p) (same (word_bytes 4 (signers_in p)) (drop record_size p)) (and_left (place_formed c p) (list_all (place_formed c) rest) a)
    (rw (signers-bytes t b (omega arith)) (same_refl (drop record_size p))))
    (all_held c n (drop place_size t) (bytes_drop place_size t b) (rw length-drop (omega arith)) (and_right (place_formed c p) (list_all (place_formed c) rest) a))
