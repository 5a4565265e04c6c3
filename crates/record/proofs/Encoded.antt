-- Numbers as std writes their bytes are numbers in memory.
use Rattle.std.proofs.lemmas.Grind.{common_steps, flat_map-append}
use Rattle.std.proofs.Common.{◌≡◌, ◌∙◌, ap, ap₂, refl, ℕ, zero, suc, ◌+◌, ◌*◌, ◌%◌, ◌-◌, ◌≤◌, ◌++◌, Option, Some, None, length-append, append-nil, List, [], ◌∷◌, length, take, drop, replicate, arith, ℤ, drop_of_length-le}
use Rattle.std.proofs.lemmas.List.{drop-replicate, take_all, length-replicate}
use Rattle.record.specs.Layout.{record_size, long_message, max_tags, max_models}
use Rattle.octets.proofs.Numbers.{length-word-bytes}
use Rattle.record.specs.Value.{Value}
use Rattle.record.specs.Encoded.{unsigned_of, pad, words, height_bytes, message_bytes, place_bytes, sighting_bytes, cited_bytes, bytes_of}
use Rattle.octets.specs.Words.{word_bytes}
use Rattle.octets.specs.Bytes.{Bytes}
use Rattle.octets.specs.Put.{Put}
use Rattle.octets.proofs.Puts as Puts

-- the zeros behind so many of m
pub zeros-behind : (m n : ℕ) → take (m - n) (drop {A = ℕ} n (replicate m 0)) ≡ replicate (m - n) 0
zeros-behind m n =
    let z : List ℕ = replicate (m - n) 0 in
    let l : length z ≡ m - n = length-replicate {A = ℕ} (m - n) 0 in
    ap (take (m - n)) (drop-replicate n m 0) ∙ take_all (m - n) z (omega arith)

-- ---- how long a record is

length-words : (w : ℕ) (xs : List ℕ) → length (words w xs) ≡ w * length xs
length-words w [] = omega arith
length-words w (x ∷ xs) = grind (arith, common_steps, length-words w xs, length-word-bytes w x)

pub length-pad : (n : ℕ) (l : List ℕ) → length l ≤ n → length (pad n l) ≡ n
length-pad n l h = grind (arith, common_steps)

pub height-length : (h : Option ℤ) → length (height_bytes h) ≡ 5
unfolding word_bytes
height-length None = refl
height-length (Some z) = refl

place-length : (time lat lon : ℕ) (h : List ℕ) → length h ≡ 5 → length (place_bytes time lat lon h) ≡ 21
place-length time lat lon h e = simp (length-append, length-word-bytes) (omega arith)

sighting-length : (message tags : List ℕ) (count used : ℕ) → length message ≡ 15 → length tags ≡ max_tags → length (sighting_bytes message count used tags) ≡ 212
sighting-length message tags count used e f = simp (length-append, length-word-bytes, length-words) (omega arith)

cited-length : (models cov : List ℕ) (count spec : ℕ) → length models ≡ 4 → length cov ≡ 48 → length (cited_bytes count models spec cov) ≡ 55
cited-length models cov count spec e f = simp (length-append, length-word-bytes, length-words) (omega arith)

pub bytes-length : (v : Value) → length v.message ≤ long_message → length v.tags ≤ max_tags → length v.models ≤ max_models → length v.covariance ≡ 6
    → length (bytes_of v) ≡ record_size
unfolding bytes_of
bytes-length v m t k c =
    let place = place_bytes v.time (unsigned_of v.latitude) (unsigned_of v.longitude) (height_bytes v.height) in
    let sighting = sighting_bytes (message_bytes v.message) (length v.tags) v.used (pad max_tags v.tags) in
    let cov = words 8 v.covariance in
    let cited = cited_bytes (length v.models) (pad max_models v.models) v.spec cov in
    let n : length (message_bytes v.message) ≡ 15 = ap (λ (n : ℕ). suc n) (length-pad long_message v.message m) in
    let w : length cov ≡ 48 = length-words 8 v.covariance ∙ ap (λ (n : ℕ). 8 * n) c in
    length-append place (sighting ++ cited)
    ∙ omega (
      arith,
      length-append sighting cited,
      place-length v.time (unsigned_of v.latitude) (unsigned_of v.longitude) (height_bytes v.height) (height-length v.height),
      sighting-length (message_bytes v.message) (pad max_tags v.tags) (length v.tags) v.used n (length-pad max_tags v.tags t),
      cited-length (pad max_models v.models) cov (length v.models) v.spec (length-pad max_models v.models k) w,
    )

-- ---- bytes, as numbers of one byte each

words-of-bytes : (l : List ℕ) → Bytes l → words 1 l ≡ l
unfolding word_bytes
words-of-bytes [] h = refl
words-of-bytes (x ∷ l) h = let e : x % 256 ≡ x = let b = h.0 in omega arith in ap₂ (λ (y : ℕ) (k : List ℕ). y ∷ k) e (words-of-bytes l h.1)

zeros-are-bytes : (n : ℕ) → Bytes (replicate n 0)
zeros-are-bytes zero = tt
zeros-are-bytes (suc n) = (omega arith, zeros-are-bytes n)

pub words-of-pad : (n : ℕ) (l : List ℕ) → Bytes l → words 1 (pad n l) ≡ pad n l
words-of-pad n l h =
    let z : List ℕ = replicate (n - length l) 0 in
    flat_map-append (word_bytes 1) l z ∙ ap₂ (λ (x y : List ℕ). x ++ y) (words-of-bytes l h) (words-of-bytes z (zeros-are-bytes (n - length l)))

-- a text that takes a whole buffer
pub whole-buffer : (l t l' : List ℕ) (r : ℕ) → length l ≡ record_size → length t ≡ record_size → Put l 0 t r l' → l' ≡ t
whole-buffer l t l' r a b p =
    Puts.put_whole p (omega (arith, a, b))
    ∙ ap (λ (z : List ℕ). t ++ z) (drop_of_length-le l (let z : length l ≤ 0 + length t = omega (arith, a, b) in z))
    ∙ append-nil t
