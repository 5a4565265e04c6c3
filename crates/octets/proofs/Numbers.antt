-- Laws of little-endian numbers, for every width: the round trips both ways, and a number in two parts.
use Rattle.std.proofs.lemmas.Grind.{common_steps}
use Prim.Native.Nat.{ℕ, zero, suc, ◌+◌, ◌*◌, ◌/◌, ◌%◌, ◌^◌, ◌≤◌, ◌<◌}
use mathlib.Core.Path.{◌≡◌, refl, sym, ap, ◌∙◌, subst}
use mathlib.Core.List.{List, [], ◌∷◌, ◌++◌}
use native.Mathlib.Omega.{arith}
use native.Mathlib.Nat.{div-one, pow-suc, mul_assoc, div-div-eq-div-mul}
use lib.ListN.{length, get_or, take, drop, length-append, length-take, length-drop, take-append-drop}
use lib.Seq.{drop-drop, drop-cons, take_at, drop_at, length-take-le}
use Rattle.std.specs.Int.{cast_signed, w16, w32, w64, to_le_bytes, from_le_bytes, byte_at, bytes_low_first}
use Rattle.std.proofs.lemmas.Nat.{from_le_bytes-to_le_bytes_2, from_le_bytes-to_le_bytes_4, from_le_bytes-to_le_bytes_8}
use Rattle.octets.specs.Bytes.{Bytes}
use Rattle.octets.specs.Words.{word, word_bytes, word_at, signed_of}
use Rattle.octets.specs.Writes.{put_word}

-- a slice's elements are bytes, place by place
pub all-bytes : (s : List ℕ) → ((i : ℕ) → get_or s i 0 < 256) → Bytes s
all-bytes [] f = tt
all-bytes (b ∷ s) f = (f 0, all-bytes s (λ i. f (suc i)))

pub bytes_take : (n : ℕ) (s : List ℕ) → Bytes s → Bytes (take n s)
bytes_take zero s h = tt
bytes_take (suc n) [] h = tt
bytes_take (suc n) (b ∷ s) h = (h.0, bytes_take n s h.1)

pub bytes_drop : (n : ℕ) (s : List ℕ) → Bytes s → Bytes (drop n s)
bytes_drop zero s h = h
bytes_drop (suc n) [] h = tt
bytes_drop (suc n) (b ∷ s) h = bytes_drop n s h.1

pub bytes-append : (s t : List ℕ) → Bytes s → Bytes t → Bytes (s ++ t)
bytes-append [] t h k = k
bytes-append (b ∷ s) t h k = (h.0, bytes-append s t h.1 k)

pub length-word-bytes : (n x : ℕ) → length (word_bytes n x) ≡ n
unfolding word_bytes
length-word-bytes zero x = refl
length-word-bytes (suc n) x = ap suc (length-word-bytes n (x / 256))

pub bytes-word-bytes : (n x : ℕ) → Bytes (word_bytes n x)
unfolding word_bytes
bytes-word-bytes zero x = tt
bytes-word-bytes (suc n) x = (omega arith, bytes-word-bytes n (x / 256))

-- what is written is read back
pub word-of-bytes : (n x : ℕ) → x < 256 ^ n → word (word_bytes n x) ≡ x
unfolding word word_bytes
word-of-bytes zero x h = let z : x ≡ 0 = omega arith in sym z
word-of-bytes (suc n) x h = omega (arith, word-of-bytes n (x / 256) (omega (arith, pow-suc 256 n)))

-- what is read is written back
pub bytes-of-word : (s : List ℕ) → Bytes s → word_bytes (length s) (word s) ≡ s
unfolding word word_bytes
bytes-of-word [] h = refl
bytes-of-word (b ∷ s) h = grind (arith, bytes-of-word s)

-- a number of n bytes is below 256 ^ n
pub word_lt : (s : List ℕ) → Bytes s → word s < 256 ^ length s
unfolding word
word_lt [] h = omega arith
word_lt (b ∷ s) h = let l = h.0 in omega (arith, word_lt s h.1, pow-suc 256 (length s))

-- ---- numbers as std reads and writes their bytes

byte-at : (i n : ℕ) → byte_at i n ≡ n / 256 ^ i % 256
byte-at zero n = ap (λ (x : ℕ). x % 256) (sym (div-one n))
byte-at (suc i) n = refl

low_bytes : (k i n : ℕ) → bytes_low_first i k n ≡ word_bytes k (n / 256 ^ i)
unfolding word_bytes
low_bytes zero i n = refl
low_bytes (suc k) i n =
    let next : n / 256 ^ suc i ≡ n / 256 ^ i / 256 = ap (λ (x : ℕ). n / x) (pow-suc 256 i) ∙ sym (div-div-eq-div-mul n (256 ^ i) 256) in
    ap (λ (b : ℕ). b ∷ bytes_low_first (suc i) k n) (byte-at i n) ∙ ap (λ (l : List ℕ). (n / 256 ^ i % 256) ∷ l) (low_bytes k (suc i) n ∙ ap (word_bytes k) next)

bytes-of : (k n : ℕ) → bytes_low_first 0 k n ≡ word_bytes k n
bytes-of k n = low_bytes k 0 n ∙ ap (word_bytes k) (div-one n)

pub bytes-of-u16 : (n : ℕ) → to_le_bytes w16 n ≡ word_bytes 2 n
bytes-of-u16 n = bytes-of 2 n

pub bytes-of-u32 : (n : ℕ) → to_le_bytes w32 n ≡ word_bytes 4 n
bytes-of-u32 n = bytes-of 4 n

pub bytes-of-u64 : (n : ℕ) → to_le_bytes w64 n ≡ word_bytes 8 n
bytes-of-u64 n = bytes-of 8 n

-- what reads back each number that it is given as bytes reads a string as the number that it is
read-of : (k : ℕ) (read : List ℕ → ℕ) (s : List ℕ) → Bytes s → length s ≡ k → ((n : ℕ) → n < 256 ^ k → read (word_bytes k n) ≡ n) → read s ≡ word s
read-of k read s p q f =
    let b : word_bytes k (word s) ≡ s = ap (λ (m : ℕ). word_bytes m (word s)) (sym q) ∙ bytes-of-word s p in
    let l : word s < 256 ^ k = subst (λ (x : ℕ). word s < 256 ^ x) q (word_lt s p) in
    ap read (sym b) ∙ f (word s) l

pub number-of-u16 : (s : List ℕ) → Bytes s → length s ≡ 2 → from_le_bytes w16 s ≡ word s
number-of-u16 s p q = read-of 2 (from_le_bytes w16) s p q (λ n h. ap (from_le_bytes w16) (sym (bytes-of-u16 n)) ∙ from_le_bytes-to_le_bytes_2 n h)

pub number-of-u32 : (s : List ℕ) → Bytes s → length s ≡ 4 → from_le_bytes w32 s ≡ word s
number-of-u32 s p q = read-of 4 (from_le_bytes w32) s p q (λ n h. ap (from_le_bytes w32) (sym (bytes-of-u32 n)) ∙ from_le_bytes-to_le_bytes_4 n h)

pub number-of-u64 : (s : List ℕ) → Bytes s → length s ≡ 8 → from_le_bytes w64 s ≡ word s
number-of-u64 s p q = read-of 8 (from_le_bytes w64) s p q (λ n h. ap (from_le_bytes w64) (sym (bytes-of-u64 n)) ∙ from_le_bytes-to_le_bytes_8 n h)

-- and a signed number as std has it
pub signed-is : (x : ℕ) → signed_of x ≡ cast_signed w32 x
signed-is x = grind arith

-- ---- a number in two parts, the lower first

pub word-append : (s t : List ℕ) → word (s ++ t) ≡ word s + word t * 256 ^ length s
unfolding word
word-append [] t = omega arith
word-append (b ∷ s) t =
    let ih = word-append s t in
    let p : word t * 256 ^ suc (length s) ≡ word t * 256 ^ length s * 256 = ap (λ (x : ℕ). word t * x) (pow-suc 256 (length s)) ∙ sym (mul_assoc (word t) (256 ^ length s) 256) in
    omega arith

-- one byte, as a number of one byte
pub word-one : (at : ℕ) (s : List ℕ) → at < length s → word_at 1 at s ≡ get_or s at 0
unfolding word
word-one at s h = rw (drop-cons s at 0 h) (omega arith)

-- what is put at a place is read there
pub put-read : (n at x : ℕ) (s : List ℕ) → at + n ≤ length s → x < 256 ^ n → word_at n at (put_word n at x s) ≡ x
put-read n at x s h b =
    let l : length (take at s) ≡ at = length-take-le at s (omega arith) in
    rw (drop_at (take at s) (word_bytes n x ++ drop (at + n) s) at l, take_at (word_bytes n x) (drop (at + n) s) n (length-word-bytes n x)) (word-of-bytes n x b)

-- putting what is read leaves all bytes as they are
pub read-put : (n at : ℕ) (s : List ℕ) → at + n ≤ length s → Bytes s → put_word n at (word_at n at s) s ≡ s
read-put n at s h b =
    let e : word_bytes n (word_at n at s) ≡ take n (drop at s) = grind (arith, common_steps, bytes-of-word (take n (drop at s)) (bytes_take n (drop at s) (bytes_drop at s b))) in
    rw (e, ← drop-drop n at s, take-append-drop n (drop at s), take-append-drop at s) refl

pub length-put : (n at x : ℕ) (s : List ℕ) → at + n ≤ length s → length (put_word n at x s) ≡ length s
length-put n at x s h = simp (length-append, length-take, length-word-bytes, length-drop) (omega arith)
