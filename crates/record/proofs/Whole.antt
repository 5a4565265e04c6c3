-- A record is its fields: two well-formed records whose fields are equal are equal bytes.
use Prim.Native.Nat.{ℕ, zero, suc, ◌+◌, ◌-◌, ◌*◌, ◌^◌, ◌≤◌, ◌<◌}
use mathlib.Core.Path.{◌≡◌, refl, sym, ap, ap₂, ◌∙◌}
use mathlib.Core.Bool.{Bool, true}
use mathlib.Core.List.{List, [], ◌∷◌, ◌++◌}
use native.Mathlib.Omega.{arith}
use native.Mathlib.Nat.{zero-add}
use lib.Dec.{eqb}
use lib.IntN.{ℤ}
use lib.ListN.{length, get_or, take, drop, replicate, take-append-drop, length-take, length-drop, drop_of_length-le}
use lib.Seq.{drop-drop, length-take-le, drop-cons}
use Rattle.octets.specs.Words.{word_bytes, word_at, signed_of, signed_at}
use Rattle.octets.specs.Runs.{all_zero}
use Rattle.octets.specs.Bytes.{Bytes}
use Rattle.octets.proofs.Numbers.{bytes_take, bytes_drop, bytes-of-word, word_lt}
use Rattle.octets.proofs.Zeros.{zero-run}
use Rattle.record.specs.Layout as L
use Rattle.record.specs.Fields as F
use Rattle.record.specs.Formed.{well_formed}
use Rattle.record.proofs.Parts.{Formed, formed, message-has, message-fits}

-- the two parts of a height: its flag, and its number
abbrev pub flagged : List ℕ → Bool
flagged r = eqb (F.byte_at L.height_flag_at r) 1

abbrev pub height_number : List ℕ → ℤ
height_number r = signed_at L.height_at r

pub record SameFields (a b : List ℕ) : Type 0 where
  pub time : F.time a ≡ F.time b
  pub latitude : F.latitude a ≡ F.latitude b
  pub longitude : F.longitude a ≡ F.longitude b
  pub flag : flagged a ≡ flagged b
  pub height : height_number a ≡ height_number b
  pub message : F.message a ≡ F.message b
  pub tags : F.tags a ≡ F.tags b
  pub used : F.used a ≡ F.used b
  pub models : F.models a ≡ F.models b
  pub spec : F.spec a ≡ F.spec b
  pub covariance : (i : ℕ) → i < 6 → F.covariance_bits a i ≡ F.covariance_bits b i

-- ---- numbers

signed-inj : (x y : ℕ) → x < 2 ^ 32 → y < 2 ^ 32 → signed_of x ≡ signed_of y → x ≡ y
signed-inj x y h k e = grind arith

-- ---- piece by piece, from the end

module _ (s : List ℕ) (h : Bytes s) (l : length s ≡ L.record_size) where
  part-length : (n at : ℕ) → at + n ≤ L.record_size → length (take n (drop at s)) ≡ n
  part-length n at k = length-take-le n (drop at s) (rw length-drop (omega arith))

  bytes-at : (n at : ℕ) → at + n ≤ L.record_size → take n (drop at s) ≡ word_bytes n (word_at n at s)
  bytes-at n at k =
      sym (ap (λ (m : ℕ). word_bytes m (word_at n at s)) (sym (part-length n at k)) ∙ bytes-of-word (take n (drop at s)) (bytes_take n (drop at s) (bytes_drop at s h)))

  word_below : (at : ℕ) → at + 4 ≤ L.record_size → word_at 4 at s < 2 ^ 32
  word_below at k = rw (part-length 4 at k) at (word_lt (take 4 (drop at s)) (bytes_take 4 (drop at s) (bytes_drop at s h)))

pub tags-length : (r : List ℕ) (i n : ℕ) → length (F.tags_from r i n) ≡ n
unfolding F.tags_from
tags-length r i zero = refl
tags-length r i (suc n) = ap suc (tags-length r (i + 1) n)

models-length : (r : List ℕ) → Formed r → length (F.models r) ≡ F.model_count r
models-length r f = let s = f.size in let k = f.cited in simp (length-take, length-drop) (omega arith)

flag_same : (a b : List ℕ) → Formed a → Formed b → flagged a ≡ flagged b → F.byte_at L.height_flag_at a ≡ F.byte_at L.height_flag_at b
flag_same a b f g e = grind (arith, f.flag, g.flag)

module _ (a b : List ℕ) (ba : Bytes a) (bb : Bytes b) (f : Formed a) (g : Formed b) where
  -- what follows a place is the same where a piece of it is, and what follows that
  piece : (at n : ℕ) → take n (drop at a) ≡ take n (drop at b) → drop (at + n) a ≡ drop (at + n) b → drop at a ≡ drop at b
  piece at n p q =
      sym (take-append-drop n (drop at a)) ∙ ap₂ (λ (x y : List ℕ). x ++ y) p (drop-drop n at a ∙ q ∙ sym (drop-drop n at b)) ∙ take-append-drop n (drop at b)

  word_piece : (n at : ℕ) → at + n ≤ L.record_size → word_at n at a ≡ word_at n at b → drop (at + n) a ≡ drop (at + n) b → drop at a ≡ drop at b
  word_piece n at l e = piece at n (bytes-at a ba f.size n at l ∙ ap (word_bytes n) e ∙ sym (bytes-at b bb g.size n at l))

  signed-piece : (at : ℕ) → at + 4 ≤ L.record_size → signed_at at a ≡ signed_at at b → drop (at + 4) a ≡ drop (at + 4) b → drop at a ≡ drop at b
  signed-piece at l e = word_piece 4 at l (signed-inj (word_at 4 at a) (word_at 4 at b) (word_below a ba f.size at l) (word_below b bb g.size at l) e)

  byte-piece : (at : ℕ) → at < L.record_size → get_or a at 0 ≡ get_or b at 0 → drop (at + 1) a ≡ drop (at + 1) b → drop at a ≡ drop at b
  byte-piece at l e = piece at 1 (rw (drop-cons a at 0 (rw f.size l), drop-cons b at 0 (rw g.size l)) (ap (λ (x : ℕ). x ∷ []) e))

  -- as many bytes that are zero, where a part that may be shorter ends before end
  zero-piece : (at n end : ℕ) → at + n ≡ end → end ≤ L.record_size → all_zero (take n (drop at a)) ≡ true → all_zero (take n (drop at b)) ≡ true → drop end a ≡ drop end b → drop at a ≡ drop at b
  zero-piece at n end e l p q r =
      piece at n
      (zero-run (take n (drop at a)) p ∙ ap (λ (m : ℕ). replicate m 0) (part-length a ba f.size n at (omega arith) ∙ sym (part-length b bb g.size n at (omega arith))) ∙ sym (zero-run (take n (drop at b)) q))
      (rw e r)

  -- words one after another
  words-piece : (n i : ℕ) → L.tags_at + 8 * (i + n) ≤ L.record_size → F.tags_from a i n ≡ F.tags_from b i n
      → drop (L.tags_at + 8 * (i + n)) a ≡ drop (L.tags_at + 8 * (i + n)) b → drop (L.tags_at + 8 * i) a ≡ drop (L.tags_at + 8 * i) b
  unfolding F.tags_from
  words-piece zero i l e q = let z : L.tags_at + 8 * (i + 0) ≡ L.tags_at + 8 * i = omega arith in rw z at q
  words-piece (suc n) i l e q =
      let x : F.tag_at a i ≡ F.tag_at b i = ap (λ (t : List ℕ). get_or t 0 0) e in
      let y : F.tags_from a (i + 1) n ≡ F.tags_from b (i + 1) n = ap (drop 1) e in
      let z : L.tags_at + 8 * (i + suc n) ≡ L.tags_at + 8 * (i + 1 + n) = omega arith in
      let w : L.tags_at + 8 * (i + 1) ≡ L.tags_at + 8 * i + 8 = omega arith in
      word_piece 8 (L.tags_at + 8 * i) (omega arith) x (rw w at (words-piece n (i + 1) (omega arith) y (rw z at q)))

  same-fields : SameFields a b → a ≡ b
  same-fields s =
      let n : F.tag_count a ≡ F.tag_count b = sym (tags-length a 0 (F.tag_count a)) ∙ ap length s.tags ∙ tags-length b 0 (F.tag_count b) in
      let m : F.message_length a ≡ F.message_length b = sym (message-has a f) ∙ ap length s.message ∙ message-has b g in
      let k : F.model_count a ≡ F.model_count b = sym (models-length a f) ∙ ap length s.models ∙ models-length b g in
      let few = f.few in
      let fits = message-fits a f in
      let cited = f.cited in
      let z : drop L.record_size a ≡ drop L.record_size b = drop_of_length-le a {i = L.record_size} (omega (arith, f.size)) ∙ sym (drop_of_length-le b {i = L.record_size} (omega (arith, g.size))) in
      let c : (i : ℕ) → i < 6 → drop (L.covariance_at + 8 * i + 8) a ≡ drop (L.covariance_at + 8 * i + 8) b → drop (L.covariance_at + 8 * i) a ≡ drop (L.covariance_at + 8 * i) b
      = λ (i : ℕ) (h : i < 6). word_piece 8 (L.covariance_at + 8 * i) (omega arith) (s.covariance i h) in
      let p = c 0 (omega arith) (c 1 (omega arith) (c 2 (omega arith) (c 3 (omega arith) (c 4 (omega arith) (c 5 (omega arith) z))))) in
      let p = word_piece 2 L.spec_at (omega arith) s.spec p in
      let p = zero-piece (L.models_at + F.model_count a) (L.max_models - F.model_count a) L.spec_at (omega arith) (omega arith) f.blank (rw (← k) at g.blank) p in
      let p = piece L.models_at (F.model_count a) (s.models ∙ ap (λ (x : ℕ). take x (drop L.models_at b)) (sym k)) p in
      let p = byte-piece L.model_count_at (omega arith) k p in
      let p = zero-piece (L.tags_at + 8 * F.tag_count a) (8 * (L.max_tags - F.tag_count a)) L.model_count_at (omega arith) (omega arith) f.spare (rw (← n) at g.spare) p in
      let p = words-piece (F.tag_count a) 0 (omega arith) (s.tags ∙ ap (F.tags_from b 0) (sym n)) (rw zero-add p) in
      let p = word_piece L.used_size L.used_at (omega arith) s.used p in
      let p = byte-piece L.tag_count_at (omega arith) n p in
      let p = zero-piece (L.message_at + F.message_length a) (L.long_message - F.message_length a) L.tag_count_at (omega arith) (omega arith) f.room (rw (← m) at g.room) p in
      let p = piece L.message_at (F.message_length a) (s.message ∙ ap (λ (x : ℕ). take x (drop L.message_at b)) (sym m)) p in
      let p = byte-piece L.message_length_at (omega arith) m p in
      let p = signed-piece L.height_at (omega arith) s.height p in
      let p = byte-piece L.height_flag_at (omega arith) (flag_same a b f g s.flag) p in
      let p = signed-piece L.lon_at (omega arith) s.longitude p in
      let p = signed-piece L.lat_at (omega arith) s.latitude p in
      word_piece 8 L.time_at (omega arith) s.time p

pub fields-whole : (a b : List ℕ) → Bytes a → Bytes b → well_formed a ≡ true → well_formed b ≡ true → SameFields a b → a ≡ b
fields-whole a b ba bb wa wb = same-fields a b ba bb (formed a wa) (formed b wb)
