-- The bytes that say what a record says are that record's.
use Rattle.std.proofs.lemmas.Grind.{flat_map-append}
use Rattle.std.proofs.lemmas.List.{take-append-drop, replicate-append-replicate}
use Rattle.std.proofs.lemmas.Int.{of_z-to_z}
use Rattle.std.proofs.Math.Seq.{take-add, take-length}
use Rattle.std.proofs.Common.{◌≡◌, ◌∙◌, sym, ap, ap₂, refl, ℕ, zero, suc, ◌+◌, ◌*◌, ◌-◌, ◌^◌, ◌≤◌, ◌<◌, ◌++◌, Bool, true, List, [], ◌∷◌, length, take, drop, replicate, eqb, cond, drop-cons, arith, w32}
use lib.Seq.{drop-drop}
use lib.ListN.{length-take, length-drop}
use Rattle.lists.proofs.Bools.{by}
use Rattle.octets.specs.Bytes.{Bytes}
use Rattle.octets.specs.Runs.{all_zero}
use Rattle.octets.specs.Words.{word_bytes, word_at, signed_of}
use Rattle.octets.proofs.Numbers.{signed-is, bytes-of-word, bytes_take, bytes_drop, word_lt}
use Rattle.octets.proofs.Zeros.{zero-run}
use Rattle.record.specs.Layout as L
use Rattle.record.specs.Fields as F
use Rattle.record.specs.Value.{value_of}
use Rattle.record.specs.Encoded.{unsigned_of, pad, words, height_bytes, message_bytes, place_bytes, sighting_bytes, cited_bytes, bytes_of}
use Rattle.record.proofs.Encoded.{words-of-pad}
use Rattle.record.proofs.Parts.{Formed, formed, message-fits, message-has}
use Rattle.record.proofs.Whole.{tags-length}
use Rattle.record_values.specs.Claims.{RecordsAreWritten}
use borrow.Author.Tests.{eqb-true}

-- what is behind a place, split in two
split : (r l : List ℕ) (at n : ℕ) → l ≡ take n (drop at r) → l ++ drop (at + n) r ≡ drop at r
split r l at n e = ap₂ (λ (x y : List ℕ). x ++ y) e (sym (drop-drop n at r)) ∙ take-append-drop n (drop at r)

zeros : (n : ℕ) (s : List ℕ) → n ≤ length s → all_zero (take n s) ≡ true → replicate n 0 ≡ take n s
zeros n s h z =
    let m : length (take n s) ≡ n = simp length-take (omega arith) in
    ap (λ (k : ℕ). replicate k 0) (sym m) ∙ sym (zero-run (take n s) z)

-- a list of which the rest is zeros, taken up to there and padded
padded : (n k : ℕ) (s : List ℕ) → k ≤ n → n ≤ length s → all_zero (take (n - k) (drop k s)) ≡ true → pad n (take k s) ≡ take n s
padded n k s a b z =
    let w : length (take k s) ≡ k = simp length-take (omega arith) in
    let d : n - k ≤ length (drop k s) = simp length-drop (omega arith) in
    let t : k + (n - k) ≡ n = omega arith in
    ap (λ (m : ℕ). take k s ++ replicate (n - m) 0) w ∙ ap (λ (l : List ℕ). take k s ++ l) (zeros (n - k) (drop k s) d z)
    ∙ sym (take-add k (n - k) s) ∙ ap (λ (m : ℕ). take m s) t

module _ (r : List ℕ) (b : Bytes r) where
  -- a number that is read from bytes, written again
  number : (n at : ℕ) → at + n ≤ length r → word_bytes n (word_at n at r) ≡ take n (drop at r)
  number n at h =
      let m : length (take n (drop at r)) ≡ n = simp (length-take, length-drop) (omega arith) in
      ap (λ (k : ℕ). word_bytes k (word_at n at r)) (sym m) ∙ bytes-of-word (take n (drop at r)) (bytes_take n (drop at r) (bytes_drop at r b))

  signed : (at : ℕ) → at + 4 ≤ length r → word_bytes 4 (unsigned_of (signed_of (word_at 4 at r))) ≡ take 4 (drop at r)
  signed at h =
      let m : length (take 4 (drop at r)) ≡ 4 = simp (length-take, length-drop) (omega arith) in
      let small : word_at 4 at r < 2 ^ 32 = rw (sym (ap (λ (k : ℕ). 256 ^ k) m)) (word_lt (take 4 (drop at r)) (bytes_take 4 (drop at r) (bytes_drop at r b))) in
      ap (λ (x : ℕ). word_bytes 4 x) (ap unsigned_of (signed-is (word_at 4 at r)) ∙ of_z-to_z w32 (word_at 4 at r) small) ∙ number 4 at h

  -- two pieces that stand one behind the other
  adjoin : (l m : List ℕ) (at n k : ℕ) → l ≡ take n (drop at r) → m ≡ take k (drop (at + n) r) → l ++ m ≡ take (n + k) (drop at r)
  adjoin l m at n k e f =
      ap₂ (λ (x y : List ℕ). x ++ y) e (f ∙ ap (take k) (sym (drop-drop n at r))) ∙ sym (take-add n k (drop at r))

  byte : (at : ℕ) → at < length r → F.byte_at at r ∷ [] ≡ take 1 (drop at r)
  byte at h = ap (take 1) (sym (drop-cons r at 0 h))

  zero-words : (n : ℕ) → words 8 (replicate n 0) ≡ replicate (8 * n) 0
  unfolding word_bytes
  zero-words zero = refl
  zero-words (suc n) =
      let e : 8 + 8 * n ≡ 8 * suc n = omega arith in
      ap (λ (l : List ℕ). replicate 8 0 ++ l) (zero-words n) ∙ replicate-append-replicate 8 (8 * n) 0 ∙ ap (λ (k : ℕ). replicate k 0) e

  tag-words : (i n : ℕ) → L.tags_at + 8 * (i + n) ≤ length r → words 8 (F.tags_from r i n) ≡ take (8 * n) (drop (L.tags_at + 8 * i) r)
  unfolding F.tags_from
  tag-words i zero h = refl
  tag-words i (suc n) h =
      let e : 8 * suc n ≡ 8 + 8 * n = omega arith in
      let g : L.tags_at + 8 * (i + 1) ≡ L.tags_at + 8 * i + 8 = omega arith in
      rw e
      (adjoin (word_bytes 8 (F.tag_at r i)) (words 8 (F.tags_from r (i + 1) n)) (L.tags_at + 8 * i) 8 (8 * n)
      (number 8 (L.tags_at + 8 * i) (omega arith))
      (tag-words (i + 1) n (omega arith) ∙ ap (λ (k : ℕ). take (8 * n) (drop k r)) g))

  module _ (f : Formed r) where
    within : (n : ℕ) → n ≤ L.record_size → n ≤ length r
    within n h = let z = f.size in omega arith

    height : height_bytes (F.height r) ≡ take 5 (drop L.height_flag_at r)
    height =
        by (eqb (F.byte_at L.height_flag_at r) 1)
        (λ h. rw h
        (adjoin (1 ∷ []) _ L.height_flag_at 1 4 (ap (λ (x : ℕ). x ∷ []) (sym (eqb-true _ _ h)) ∙ byte L.height_flag_at (within 17 (omega arith)))
        (signed L.height_at (within 21 (omega arith)))))
        (λ h.
        let z : eqb (F.byte_at L.height_flag_at r) 0 ≡ true = grind (arith, f.flag, h) in
        let a : all_zero (take 4 (drop L.height_at r)) ≡ true = sym (ap (λ (b : Bool). cond b (all_zero (take 4 (drop L.height_at r))) (eqb (F.byte_at L.height_flag_at r) 1)) z) ∙ f.flag in
        rw h
        (adjoin (0 ∷ []) (replicate 4 0) L.height_flag_at 1 4 (ap (λ (x : ℕ). x ∷ []) (sym (eqb-true _ _ z)) ∙ byte L.height_flag_at (within 17 (omega arith)))
        (zeros 4 (drop L.height_at r) (let k = within 21 (omega arith) in simp length-drop (omega arith)) a)))

    place : place_bytes (F.time r) (unsigned_of (F.latitude r)) (unsigned_of (F.longitude r)) (height_bytes (F.height r)) ≡ take 21 r
    place =
        adjoin _ _ L.time_at 8 13 (number 8 L.time_at (within 8 (omega arith)))
        (adjoin _ _ L.lat_at 4 9 (signed L.lat_at (within 12 (omega arith)))
        (adjoin _ _ L.lon_at 4 5 (signed L.lon_at (within 16 (omega arith))) height))

    message : message_bytes (F.message r) ≡ take 15 (drop L.message_length_at r)
    message =
        let few = message-fits r f in
        let room = ap (λ (l : List ℕ). all_zero (take (L.long_message - F.message_length r) l)) (drop-drop (F.message_length r) L.message_at r) ∙ f.room in
        adjoin _ _ L.message_length_at 1 14 (ap (λ (n : ℕ). n ∷ []) (message-has r f) ∙ byte L.message_length_at (within 22 (omega arith)))
        (padded 14 (F.message_length r) (drop L.message_at r) few (let k = within 36 (omega arith) in simp length-drop (omega arith)) room)

    padded-tags : words 8 (pad L.max_tags (F.tags r)) ≡ take 192 (drop L.tags_at r)
    padded-tags =
        let n : length (F.tags r) ≡ F.tag_count r = tags-length r 0 (F.tag_count r) in
        let few = f.few in
        let rest : ℕ = L.max_tags - F.tag_count r in
        let sum : 8 * F.tag_count r + 8 * rest ≡ 192 = omega arith in
        flat_map-append (word_bytes 8) (F.tags r) (replicate (L.max_tags - length (F.tags r)) 0)
        ∙ ap (λ (k : ℕ). words 8 (F.tags r) ++ words 8 (replicate (L.max_tags - k) 0)) n
        ∙ adjoin _ _ L.tags_at (8 * F.tag_count r) (8 * rest) (tag-words 0 (F.tag_count r) (let k = within 233 (omega arith) in omega arith))
        (zero-words rest ∙ zeros (8 * rest) (drop (L.tags_at + 8 * F.tag_count r) r) (let k = within 233 (omega arith) in simp length-drop (omega arith)) f.spare)
        ∙ ap (λ (k : ℕ). take k (drop L.tags_at r)) sum

    sighting : sighting_bytes (message_bytes (F.message r)) (length (F.tags r)) (F.used r) (pad L.max_tags (F.tags r)) ≡ take 212 (drop L.message_length_at r)
    sighting =
        adjoin _ _ L.message_length_at 15 197 message
        (adjoin _ _ L.tag_count_at 1 196 (ap (λ (n : ℕ). n ∷ []) (tags-length r 0 (F.tag_count r)) ∙ byte L.tag_count_at (within 37 (omega arith)))
        (adjoin _ _ L.used_at 4 192 (number 4 L.used_at (within 41 (omega arith))) padded-tags))

    padded-models : words 1 (pad L.max_models (F.models r)) ≡ take 4 (drop L.models_at r)
    padded-models =
        let few = f.cited in
        let room = ap (λ (l : List ℕ). all_zero (take (L.max_models - F.model_count r) l)) (drop-drop (F.model_count r) L.models_at r) ∙ f.blank in
        words-of-pad L.max_models (F.models r) (bytes_take (F.model_count r) (drop L.models_at r) (bytes_drop L.models_at r b))
        ∙ padded 4 (F.model_count r) (drop L.models_at r) few (let k = within 238 (omega arith) in simp length-drop (omega arith)) room

    models-length : length (F.models r) ≡ F.model_count r
    models-length = let few = f.cited in let k = within 238 (omega arith) in simp (length-take, length-drop) (omega arith)

    covariance : words 8 (value_of r).covariance ≡ take 48 (drop L.covariance_at r)
    covariance =
        adjoin _ _ 240 8 40 (number 8 240 (within 248 (omega arith)))
        (adjoin _ _ 248 8 32 (number 8 248 (within 256 (omega arith)))
        (adjoin _ _ 256 8 24 (number 8 256 (within 264 (omega arith)))
        (adjoin _ _ 264 8 16 (number 8 264 (within 272 (omega arith)))
        (adjoin _ _ 272 8 8 (number 8 272 (within 280 (omega arith)))
        (adjoin _ [] 280 8 0 (number 8 280 (within 288 (omega arith))) refl)))))

    cited : cited_bytes (length (F.models r)) (pad L.max_models (F.models r)) (F.spec r) (words 8 (value_of r).covariance) ≡ take 55 (drop L.model_count_at r)
    cited =
        adjoin _ _ L.model_count_at 1 54 (ap (λ (n : ℕ). n ∷ []) models-length ∙ byte L.model_count_at (within 234 (omega arith)))
        (adjoin _ _ L.models_at 4 50 padded-models
        (adjoin _ _ L.spec_at 2 48 (number 2 L.spec_at (within 240 (omega arith))) covariance))

    pub bytes-of-value : bytes_of (value_of r) ≡ r
    unfolding bytes_of
    bytes-of-value =
        adjoin _ _ 0 21 267 place (adjoin _ _ L.message_length_at 212 55 sighting cited) ∙ ap (λ (n : ℕ). take n r) (sym f.size) ∙ take-length r

pub records-are-written : RecordsAreWritten
records-are-written r found b w = rw (bytes-of-value r b (formed r w), w) refl
