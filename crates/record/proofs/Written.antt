-- The bytes that say a value are read back as that value.
use Rattle.std.proofs.Common.{◌≡◌, ◌∙◌, sym, ap, ap₂, refl, ℕ, zero, suc, ◌+◌, ◌*◌, ◌^◌, ◌-◌, ◌<◌, ◌++◌, Option, Some, None, All, IfSome, append_assoc, append-nil, List, [], ◌∷◌, length, take, drop, replicate, get_or, w32, arith, ℤ, FitsSigned}
use Rattle.std.proofs.lemmas.List.{get_or-drop}
use Rattle.std.proofs.lemmas.Grind.{flat_map-append}
use Rattle.std.proofs.Math.Seq.{drop-append_seam, take-append_seam}
use lib.Seq.{drop-drop}
use mir.Facts.{to_z-of_z, Fits-of_z}
use Rattle.octets.specs.Words.{word, word_bytes, word_at, signed_of}
use Rattle.octets.proofs.Numbers.{signed-is, length-word-bytes, word-of-bytes}
use Rattle.record.specs.Layout as L
use Rattle.record.specs.Fields as F
use Rattle.record.specs.Value.{Value, value_of}
use Rattle.record.specs.Encoded.{unsigned_of, pad, words, height_bytes, bytes_of}
use Rattle.record.specs.Fits.{Fits}
use Rattle.record.proofs.Encoded.{words-of-pad, height-length, length-pad}

-- ---- what stands at a place, and behind it

module _ (r p b : List ℕ) (at : ℕ) (e : drop at r ≡ p ++ b) where
  front : take (length p) (drop at r) ≡ p
  front = ap (take (length p)) e ∙ take-append_seam p b

  behind : drop (at + length p) r ≡ b
  behind = sym (drop-drop (length p) at r) ∙ ap (drop (length p)) e ∙ drop-append_seam p b

  first : (x : ℕ) (k : List ℕ) → p ≡ x ∷ k → get_or r at 0 ≡ x
  first x k q =
      let z : at + 0 ≡ at = omega arith in
      ap (λ (n : ℕ). get_or r n 0) (sym z) ∙ sym (get_or-drop at r 0 0) ∙ ap (λ (l : List ℕ). get_or l 0 0) (e ∙ ap (λ (l : List ℕ). l ++ b) q)

module _ (r b : List ℕ) (at n x : ℕ) (e : drop at r ≡ word_bytes n x ++ b) where
  number : x < 256 ^ n → word_at n at r ≡ x
  number h =
      ap (λ (k : ℕ). word (take k (drop at r))) (sym (length-word-bytes n x)) ∙ ap word (front r (word_bytes n x) b at e) ∙ word-of-bytes n x h

  behind-number : drop (at + n) r ≡ b
  behind-number = ap (λ (k : ℕ). drop (at + k) r) (sym (length-word-bytes n x)) ∙ behind r (word_bytes n x) b at e

signed-back : (z : ℤ) → FitsSigned w32 z → signed_of (unsigned_of z) ≡ z
signed-back z h = signed-is (unsigned_of z) ∙ to_z-of_z {w = w32} {z = z} h

signed-small : (z : ℤ) → FitsSigned w32 z → unsigned_of z < 256 ^ 4
signed-small z h = (Fits-of_z {w = w32} {z = z} h).fits

-- a signed number that was written
signed-number : (r b : List ℕ) (at : ℕ) (z : ℤ) → drop at r ≡ word_bytes 4 (unsigned_of z) ++ b → FitsSigned w32 z → signed_of (word_at 4 at r) ≡ z
signed-number r b at z e h = ap signed_of (number r b at 4 (unsigned_of z) e (signed-small z h)) ∙ signed-back z h

-- ---- numbers of 8 bytes, one after another

words-cons : (x : ℕ) (l b : List ℕ) → words 8 (x ∷ l) ++ b ≡ word_bytes 8 x ++ (words 8 l ++ b)
words-cons x l b = append_assoc (word_bytes 8 x) (words 8 l) b

module _ (r b : List ℕ) where
  word-in : (l : List ℕ) (at : ℕ) → drop at r ≡ words 8 l ++ b → All (λ x. x < 2 ^ 64) l → (i : ℕ) → i < length l → word_at 8 (at + 8 * i) r ≡ get_or l i 0
  word-in [] at e f i h = absurd (omega arith)
  word-in (x ∷ l) at e f zero h =
      let z : at + 8 * 0 ≡ at = omega arith in
      rw z (number r (words 8 l ++ b) at 8 x (e ∙ words-cons x l b) (f 0 0 (omega arith)))
  word-in (x ∷ l) at e f (suc i) h =
      let z : at + 8 * suc i ≡ at + 8 + 8 * i = omega arith in
      rw z (word-in l (at + 8) (behind-number r (words 8 l ++ b) at 8 x (e ∙ words-cons x l b)) (λ k d q. f (suc k) d (omega arith)) i (omega arith))

  behind-words : (l : List ℕ) (at : ℕ) → drop at r ≡ words 8 l ++ b → drop (at + 8 * length l) r ≡ b
  behind-words [] at e = let z : at + 8 * 0 ≡ at = omega arith in rw z e
  behind-words (x ∷ l) at e =
      let z : at + 8 * suc (length l) ≡ at + 8 + 8 * length l = omega arith in
      rw z (behind-words l (at + 8) (behind-number r (words 8 l ++ b) at 8 x (e ∙ words-cons x l b)))

tags-are : (r l : List ℕ) (i : ℕ) → ((k : ℕ) → k < length l → F.tag_at r (i + k) ≡ get_or l k 0) → F.tags_from r i (length l) ≡ l
unfolding F.tags_from
tags-are r [] i f = refl
tags-are r (x ∷ l) i f =
    let z : i + 0 ≡ i = omega arith in
    ap₂ (λ (y : ℕ) (k : List ℕ). y ∷ k) (ap (F.tag_at r) (sym z) ∙ f 0 (omega arith))
    (tags-are r l (i + 1) (λ k h. let w : i + 1 + k ≡ i + suc k = omega arith in ap (F.tag_at r) w ∙ f (suc k) (omega arith)))

six-are : (l : List ℕ) → length l ≡ 6 → get_or l 0 0 ∷ get_or l 1 0 ∷ get_or l 2 0 ∷ get_or l 3 0 ∷ get_or l 4 0 ∷ get_or l 5 0 ∷ [] ≡ l
six-are (a ∷ b ∷ c ∷ d ∷ e ∷ f ∷ []) h = refl
six-are _ h = absurd (omega arith)

-- ---- the parts of a record, one behind another

place-parts : (t a o h c : List ℕ) → (t ++ (a ++ (o ++ h))) ++ c ≡ t ++ (a ++ (o ++ (h ++ c)))
place-parts t a o h c =
    append_assoc t (a ++ (o ++ h)) c ∙ ap (λ (x : List ℕ). t ++ x) (append_assoc a (o ++ h) c) ∙ ap (λ (x : List ℕ). t ++ (a ++ x)) (append_assoc o h c)

sighting-parts : (x y : ℕ) (m z u t w c : List ℕ) → ((x ∷ (m ++ z)) ++ (y ∷ (u ++ (t ++ w)))) ++ c ≡ x ∷ (m ++ (z ++ (y ∷ (u ++ (t ++ (w ++ c))))))
sighting-parts x y m z u t w c =
    ap (λ (l : List ℕ). x ∷ l)
    (append_assoc (m ++ z) (y ∷ (u ++ (t ++ w))) c ∙ append_assoc m z ((y ∷ (u ++ (t ++ w))) ++ c)
    ∙ ap (λ (l : List ℕ). m ++ (z ++ (y ∷ l))) (append_assoc u (t ++ w) c ∙ ap (λ (l : List ℕ). u ++ l) (append_assoc t w c)))

module _ (v : Value) (fit : Fits v) where
  abbrev r : List ℕ
  r = bytes_of v

  abbrev zeros : ℕ → List ℕ
  zeros n = replicate n 0

  abbrev from_spec : List ℕ
  from_spec = word_bytes 2 v.spec ++ words 8 v.covariance

  abbrev from_models : List ℕ
  from_models = v.models ++ (zeros (L.max_models - length v.models) ++ from_spec)

  abbrev from_tags : List ℕ
  from_tags = words 8 v.tags ++ (words 8 (zeros (L.max_tags - length v.tags)) ++ (length v.models ∷ from_models))

  abbrev from_used : List ℕ
  from_used = word_bytes L.used_size v.used ++ from_tags

  abbrev from_message : List ℕ
  from_message = v.message ++ (zeros (L.long_message - length v.message) ++ (length v.tags ∷ from_used))

  abbrev from_height : List ℕ
  from_height = height_bytes v.height ++ (length v.message ∷ from_message)

  whole : r ≡ word_bytes 8 v.time ++ (word_bytes 4 (unsigned_of v.latitude) ++ (word_bytes 4 (unsigned_of v.longitude) ++ from_height))
  unfolding bytes_of
  whole =
      rw (words-of-pad L.max_models v.models fit.model_numbers, flat_map-append (word_bytes 8) v.tags (zeros (L.max_tags - length v.tags)))
      (place-parts (word_bytes 8 v.time) (word_bytes 4 (unsigned_of v.latitude)) (word_bytes 4 (unsigned_of v.longitude)) (height_bytes v.height) _
      ∙ ap (λ (l : List ℕ). word_bytes 8 v.time ++ (word_bytes 4 (unsigned_of v.latitude) ++ (word_bytes 4 (unsigned_of v.longitude) ++ (height_bytes v.height ++ l))))
      (sighting-parts (length v.message) (length v.tags) v.message (zeros (L.long_message - length v.message)) (word_bytes L.used_size v.used) (words 8 v.tags) (words 8 (zeros (L.max_tags - length v.tags)))
      (length v.models ∷ ((v.models ++ zeros (L.max_models - length v.models)) ++ from_spec))
      ∙ ap (λ (l : List ℕ). length v.message ∷ (v.message ++ (zeros (L.long_message - length v.message) ++ (length v.tags ∷ (word_bytes L.used_size v.used ++ (words 8 v.tags ++ (words 8 (zeros (L.max_tags - length v.tags)) ++ (length v.models ∷ l))))))))
      (append_assoc v.models (zeros (L.max_models - length v.models)) from_spec)))

  at_latitude : drop L.lat_at r ≡ word_bytes 4 (unsigned_of v.latitude) ++ (word_bytes 4 (unsigned_of v.longitude) ++ from_height)
  at_latitude = behind-number r _ L.time_at 8 v.time whole

  at_longitude : drop L.lon_at r ≡ word_bytes 4 (unsigned_of v.longitude) ++ from_height
  at_longitude = behind-number r _ L.lat_at 4 (unsigned_of v.latitude) at_latitude

  at_height : drop L.height_flag_at r ≡ from_height
  at_height = behind-number r _ L.lon_at 4 (unsigned_of v.longitude) at_longitude

  at_message_length : drop L.message_length_at r ≡ length v.message ∷ from_message
  at_message_length = ap (λ (n : ℕ). drop (L.height_flag_at + n) r) (sym (height-length v.height)) ∙ behind r (height_bytes v.height) _ L.height_flag_at at_height

  at_message : drop L.message_at r ≡ from_message
  at_message = behind r (length v.message ∷ []) from_message L.message_length_at at_message_length

  at_tag_count : drop L.tag_count_at r ≡ length v.tags ∷ from_used
  at_tag_count =
      let room : length (pad L.long_message v.message) ≡ L.long_message = length-pad L.long_message v.message fit.message in
      ap (λ (n : ℕ). drop (L.message_at + n) r) (sym room)
      ∙ behind r (pad L.long_message v.message) _ L.message_at (at_message ∙ sym (append_assoc v.message (zeros (L.long_message - length v.message)) (length v.tags ∷ from_used)))

  at_used : drop L.used_at r ≡ from_used
  at_used = behind r (length v.tags ∷ []) from_used L.tag_count_at at_tag_count

  at_tags : drop L.tags_at r ≡ from_tags
  at_tags = behind-number r _ L.used_at L.used_size v.used at_used

  at_model_count : drop L.model_count_at r ≡ length v.models ∷ from_models
  at_model_count =
      let room : length (pad L.max_tags v.tags) ≡ L.max_tags = length-pad L.max_tags v.tags fit.tags in
      let both : words 8 v.tags ++ words 8 (zeros (L.max_tags - length v.tags)) ≡ words 8 (pad L.max_tags v.tags) = sym (flat_map-append (word_bytes 8) v.tags (zeros (L.max_tags - length v.tags))) in
      ap (λ (n : ℕ). drop (L.tags_at + 8 * n) r) (sym room)
      ∙ behind-words r _ (pad L.max_tags v.tags) L.tags_at
      (at_tags ∙ sym (append_assoc (words 8 v.tags) (words 8 (zeros (L.max_tags - length v.tags))) (length v.models ∷ from_models)) ∙ ap (λ (l : List ℕ). l ++ (length v.models ∷ from_models)) both)

  at_models : drop L.models_at r ≡ from_models
  at_models = behind r (length v.models ∷ []) from_models L.model_count_at at_model_count

  at_spec : drop L.spec_at r ≡ from_spec
  at_spec =
      let room : length (pad L.max_models v.models) ≡ L.max_models = length-pad L.max_models v.models fit.models in
      ap (λ (n : ℕ). drop (L.models_at + n) r) (sym room)
      ∙ behind r (pad L.max_models v.models) from_spec L.models_at (at_models ∙ sym (append_assoc v.models (zeros (L.max_models - length v.models)) from_spec))

  at_covariance : drop L.covariance_at r ≡ words 8 v.covariance ++ []
  at_covariance = behind-number r _ L.spec_at 2 v.spec at_spec ∙ sym (append-nil (words 8 v.covariance))

  -- ---- what is read there

  latitude_is : F.latitude r ≡ v.latitude
  latitude_is = signed-number r _ L.lat_at v.latitude at_latitude fit.latitude

  longitude_is : F.longitude r ≡ v.longitude
  longitude_is = signed-number r _ L.lon_at v.longitude at_longitude fit.longitude

  -- by whether there is a height
  height-by : (h : Option ℤ) (b : List ℕ) → drop L.height_flag_at r ≡ height_bytes h ++ b → IfSome h (FitsSigned w32) → F.height r ≡ h
  height-by None b e f = let flag : F.byte_at L.height_flag_at r ≡ 0 = first r (replicate 5 0) b L.height_flag_at e 0 (replicate 4 0) refl in rw flag refl
  height-by (Some z) b e f =
      let flag : F.byte_at L.height_flag_at r ≡ 1 = first r (height_bytes (Some z)) b L.height_flag_at e 1 (word_bytes 4 (unsigned_of z)) refl in
      let there : drop L.height_at r ≡ word_bytes 4 (unsigned_of z) ++ b = behind r (1 ∷ []) (word_bytes 4 (unsigned_of z) ++ b) L.height_flag_at e in
      rw flag (ap Some (signed-number r b L.height_at z there f))

  message_is : F.message r ≡ v.message
  message_is =
      let size : F.message_length r ≡ length v.message = first r (length v.message ∷ []) from_message L.message_length_at at_message_length (length v.message) [] refl in
      ap (λ (n : ℕ). take n (drop L.message_at r)) size ∙ front r v.message _ L.message_at at_message

  tags_is : F.tags r ≡ v.tags
  tags_is =
      let count : F.tag_count r ≡ length v.tags = first r (length v.tags ∷ []) from_used L.tag_count_at at_tag_count (length v.tags) [] refl in
      ap (F.tags_from r 0) count ∙ tags-are r v.tags 0 (λ k h. let z : 0 + k ≡ k = omega arith in rw z (word-in r _ v.tags L.tags_at at_tags fit.tag_numbers k h))

  models_is : F.models r ≡ v.models
  models_is =
      let count : F.model_count r ≡ length v.models = first r (length v.models ∷ []) from_models L.model_count_at at_model_count (length v.models) [] refl in
      ap (λ (n : ℕ). take n (drop L.models_at r)) count ∙ front r v.models _ L.models_at at_models

  covariance_is : (value_of r).covariance ≡ v.covariance
  covariance_is =
      let c : (i : ℕ) → i < 6 → F.covariance_bits r i ≡ get_or v.covariance i 0
      = λ i h. word-in r [] v.covariance L.covariance_at at_covariance fit.covariance_numbers i (omega (arith, fit.covariance)) in
      rw (c 0 (omega arith), c 1 (omega arith), c 2 (omega arith), c 3 (omega arith), c 4 (omega arith), c 5 (omega arith)) (six-are v.covariance fit.covariance)

  pub value-of-bytes : value_of (bytes_of v) ≡ v
  value-of-bytes =
      rw (
        number r _ L.time_at 8 v.time whole fit.time,
        latitude_is,
        longitude_is,
        height-by v.height _ at_height fit.height,
        message_is,
        tags_is,
        number r _ L.used_at L.used_size v.used at_used fit.used,
        models_is,
        number r _ L.spec_at 2 v.spec at_spec fit.spec,
        covariance_is,
      ) refl
