-- Laws of runs of zeros.
use Prim.Native.Nat.{ℕ, zero, suc, ◌+◌, ◌-◌, ◌*◌, ◌/◌, ◌%◌, ◌^◌, ◌≤◌, ◌<◌}
use mathlib.Core.Path.{◌≡◌, refl, sym, ap, ◌∙◌, subst}
use mathlib.Core.Bool.{true, cond, not, ◌&&◌}
use mathlib.Core.List.{List, [], ◌∷◌, map}
use native.Mathlib.Omega.{arith}
use lib.Dec.{eqb}
use lib.Bits.{bit_or, or_add_and, and_le_l, and_le_r}
use lib.Lanes.{mask_l, zip2, top, number_l, digits_l}
use lib.ListN.{length, replicate, take, drop, length-drop, take-append-drop}
use lib.Seq.{length-take-le}
use mir.Syntax.{w64}
use Rattle.std.proofs.lemmas.Simd.{bitmask_splat}
use Rattle.octets.specs.Bytes.{Bytes}
use Rattle.octets.specs.Words.{word}
use Rattle.octets.specs.Runs.{all_zero}
use Rattle.octets.proofs.Numbers.{bytes_take, bytes_drop, word_lt, word-append}

pub zero-run : (s : List ℕ) → all_zero s ≡ true → s ≡ replicate (length s) 0
unfolding all_zero
zero-run [] h = refl
zero-run (b ∷ s) h = grind (arith, zero-run s)

pub run-zero : (n : ℕ) → all_zero (replicate n 0) ≡ true
unfolding all_zero
run-zero zero = refl
run-zero (suc n) = run-zero n

-- a bitwise or is zero exactly when both parts are
pub or-zero : (a b : ℕ) → eqb (bit_or a b) 0 ≡ (eqb a 0 && eqb b 0)
or-zero a b = grind (arith, or_add_and a b, and_le_r a b, and_le_l a b)

pub zeros-parted : (n : ℕ) (s : List ℕ) → all_zero s ≡ (all_zero (take n s) && all_zero (drop n s))
unfolding all_zero
zeros-parted zero s = refl
zeros-parted (suc n) [] = refl
zeros-parted (suc n) (b ∷ s) = grind (arith, zeros-parted n s)

-- a word is zero exactly when its bytes are
word-zero : (s : List ℕ) → eqb (word s) 0 ≡ all_zero s
unfolding word all_zero
word-zero [] = refl
word-zero (b ∷ s) = grind (arith, word-zero s)

-- ---- lanes

pub lanes-or-zero : (s t : List ℕ) → length s ≡ length t → all_zero (zip2 bit_or s t) ≡ (all_zero s && all_zero t)
unfolding all_zero
lanes-or-zero [] [] e = refl
lanes-or-zero [] (y ∷ t) e = absurd (omega arith)
lanes-or-zero (x ∷ s) [] e = absurd (omega arith)
lanes-or-zero (x ∷ s) (y ∷ t) e = grind (arith, or-zero x y, lanes-or-zero s t)

mask-zero : (s : List ℕ) → eqb (mask_l (map (λ x. not (eqb x 0)) s)) 0 ≡ all_zero s
unfolding all_zero
mask-zero [] = refl
mask-zero (b ∷ s) = grind (arith, mask-zero s)

-- no lane differs from zero
pub lanes-zero : (n : ℕ) (s : List ℕ) → length s ≡ n → n ≤ 64 → eqb (mask_l (map (top 63) (zip2 (λ a b. cond (not (eqb a b)) (2 ^ 64 - 1) 0) s (replicate n 0))) % 2 ^ 64) 0 ≡ all_zero s
lanes-zero n s l h = ap (λ (m : ℕ). eqb m 0) (bitmask_splat w64 (λ a b. not (eqb a b)) s n 0 l h) ∙ mask-zero s

number-is : (s : List ℕ) → number_l 256 s ≡ word s
unfolding word
number-is [] = refl
number-is (b ∷ s) = omega (arith, number-is s)

-- lanes of eight bytes each are zero where the bytes are
words-zero : (n : ℕ) (s : List ℕ) → length s ≡ 8 * n → Bytes s → all_zero (digits_l (2 ^ 64) n (word s)) ≡ all_zero s
unfolding all_zero
words-zero zero [] l h = refl
words-zero zero (b ∷ s) l h = absurd (omega arith)
words-zero (suc n) s l h =
    let a = take 8 s in
    let t = drop 8 s in
    let k : length a ≡ 8 = length-take-le 8 s (omega arith) in
    let below : word a < 2 ^ 64 = subst (λ (x : ℕ). word a < 256 ^ x) k (word_lt a (bytes_take 8 s h)) in
    let e : word s ≡ word a + word t * 2 ^ 64 = sym (ap word (take-append-drop 8 s)) ∙ word-append a t ∙ rw k refl in
    let low : word s % 2 ^ 64 ≡ word a = omega arith in
    let high : word s / 2 ^ 64 ≡ word t = omega arith in
    rw (low, high, word-zero a, words-zero n t (rw length-drop (omega arith)) (bytes_drop 8 s h)) (sym (zeros-parted 8 s))

pub block-zero : (s : List ℕ) → length s ≡ 64 → Bytes s → all_zero (digits_l (2 ^ 64) 8 (number_l 256 s)) ≡ all_zero s
block-zero s l h = rw (number-is s) (words-zero 8 s l h)
