-- Laws of masks, for every width: what the machine's operations do to the bits, and that a number is its bits.
use Prim.Native.Nat.{ℕ, zero, suc, ◌+◌, ◌*◌, ◌/◌, ◌%◌, ◌^◌, ◌≤◌, ◌<◌}
use mathlib.Core.Path.{◌≡◌, refl, sym, ap, ◌∙◌}
use mathlib.Core.Bool.{true, false, cond, not, ◌&&◌, ◌||◌}
use native.Mathlib.Omega.{arith}
use native.Mathlib.Nat.{pow-suc, one-mul}
use native.Mathlib.Numerals.{one-add}
use lib.Dec.{ltb, eqb, eqb-zero-suc, eqb-suc-zero, eqb-suc-suc}
use lib.Bits.{bit_and, bit_or, and_step, or_step, or_zero_r}
use lib.Pow.{pow_mono, shr-shr, shl_exact}
use lib.Arith.{bin_ind}
use lib.Count.{ones, ones_in, ones_step}
use Rattle.lists.proofs.Bools.{by}
use borrow.Author.Tests.{ne_eqb, eqb-false, ltb-true, ltb-false}
use Rattle.octets.specs.Masks.{bit, with_bit, without_bit, bit_count}

-- ---- the machine's operations

pub one_shl : (w e : ℕ) → e < w → 1 * 2 ^ e % 2 ^ w ≡ 2 ^ e
one_shl w e h = shl_exact 1 e w (omega arith) (omega arith) ∙ one-mul (2 ^ e)

pub bit-of : (m e : ℕ) → eqb (m / 2 ^ e % 2) 1 ≡ bit m e
unfolding bit
bit-of m zero = let p : m / 1 ≡ m = omega arith in rw p refl
bit-of m (suc e) = ap (λ (x : ℕ). eqb (x % 2) 1) (ap (λ (k : ℕ). m / 2 ^ k) (sym (one-add e)) ∙ sym (shr-shr m 1 e)) ∙ bit-of (m / 2) e

pub or_set : (m e : ℕ) → bit_or m (2 ^ e) ≡ with_bit m e
unfolding with_bit
or_set m zero = or_step m 1 ∙ (rw or_zero_r (omega arith))
or_set m (suc e) =
    let p : 2 ^ suc e / 2 ≡ 2 ^ e = omega (arith, pow-suc 2 e) in
    let q : 2 ^ suc e % 2 ≡ 0 = omega (arith, pow-suc 2 e) in
    or_step m (2 ^ suc e) ∙ rw (p, q, or_set (m / 2) e) (omega arith)

pub clear-set : (m e : ℕ) → bit m e ≡ true → without_bit m e + 2 ^ e ≡ m
unfolding bit without_bit
clear-set m zero h = grind arith
clear-set m (suc e) h = omega (arith, clear-set (m / 2) e h, pow-suc 2 e)

pub clear-unset : (m e : ℕ) → bit m e ≡ false → without_bit m e ≡ m
unfolding bit without_bit
clear-unset m zero h = let n = eqb-false (m % 2) 1 h in omega arith
clear-unset m (suc e) h = omega (arith, clear-unset (m / 2) e h)

-- ---- the bits after an operation

pub bit-set : (m e k : ℕ) → bit (with_bit m e) k ≡ (eqb e k || bit m k)
unfolding bit with_bit
bit-set m zero zero = grind arith
bit-set m zero (suc k) = let p : (m / 2 * 2 + 1) / 2 ≡ m / 2 = omega arith in rw (eqb-zero-suc k, p) refl
bit-set m (suc e) zero = grind arith
bit-set m (suc e) (suc k) = let p : (with_bit (m / 2) e * 2 + m % 2) / 2 ≡ with_bit (m / 2) e = omega arith in rw (eqb-suc-suc e k, p) (bit-set (m / 2) e k)

pub bit-clear : (m e k : ℕ) → bit (without_bit m e) k ≡ (not (eqb e k) && bit m k)
unfolding bit without_bit
bit-clear m zero zero = ne_eqb (m / 2 * 2 % 2) 1 (omega arith)
bit-clear m zero (suc k) = let p : m / 2 * 2 / 2 ≡ m / 2 = omega arith in rw (eqb-zero-suc k, p) refl
bit-clear m (suc e) zero = let p : (without_bit (m / 2) e * 2 + m % 2) % 2 ≡ m % 2 = omega arith in rw (eqb-suc-zero e, p) refl
bit-clear m (suc e) (suc k) = let p : (without_bit (m / 2) e * 2 + m % 2) / 2 ≡ without_bit (m / 2) e = omega arith in rw (eqb-suc-suc e k, p) (bit-clear (m / 2) e k)

pub bit-zero : (k : ℕ) → bit 0 k ≡ false
unfolding bit
bit-zero zero = refl
bit-zero (suc k) = bit-zero k

pub bit-and : (a b k : ℕ) → bit (bit_and a b) k ≡ (bit a k && bit b k)
unfolding bit
bit-and a b zero = grind (arith, and_step a b)
bit-and a b (suc k) = let p : bit_and a b / 2 ≡ bit_and (a / 2) (b / 2) = omega (arith, and_step a b) in rw p (bit-and (a / 2) (b / 2) k)

pub bit-or : (a b k : ℕ) → bit (bit_or a b) k ≡ (bit a k || bit b k)
unfolding bit
bit-or a b zero = grind (arith, or_step a b)
bit-or a b (suc k) = let p : bit_or a b / 2 ≡ bit_or (a / 2) (b / 2) = omega (arith, or_step a b) in rw p (bit-or (a / 2) (b / 2) k)

-- ---- a number is its bits

none : (t : ℕ) → ((k : ℕ) → bit t k ≡ false) → t ≡ 0
unfolding bit
none = bin_ind (λ (t : ℕ). ((k : ℕ) → bit t k ≡ false) → t ≡ 0) (λ h. refl) step
  where
    step : (n : ℕ) → (((k : ℕ) → bit (n / 2) k ≡ false) → n / 2 ≡ 0) → ((k : ℕ) → bit n k ≡ false) → n ≡ 0
    step n ih h = let o = eqb-false (n % 2) 1 (h 0) in omega (arith, ih (λ k. h (suc k)))

odd-same : (a b : ℕ) → a < 2 → b < 2 → eqb a 1 ≡ eqb b 1 → a ≡ b
odd-same a b h k e = grind arith

pub bit-ext : (s t : ℕ) → ((k : ℕ) → bit s k ≡ bit t k) → s ≡ t
unfolding bit
bit-ext = bin_ind (λ (s : ℕ). (t : ℕ) → ((k : ℕ) → bit s k ≡ bit t k) → s ≡ t) (λ t h. sym (none t (λ k. sym (h k) ∙ bit-zero k))) step
  where
    step : (n : ℕ) → ((t : ℕ) → ((k : ℕ) → bit (n / 2) k ≡ bit t k) → n / 2 ≡ t) → (t : ℕ) → ((k : ℕ) → bit n k ≡ bit t k) → n ≡ t
    step n ih t h = omega (arith, ih (t / 2) (λ k. h (suc k)), odd-same (n % 2) (t % 2) (omega arith) (omega arith) (h 0))

-- ---- how many bits are set

pub count_ones : (n m : ℕ) → m < 2 ^ n → ones m ≡ bit_count n m
unfolding bit_count
count_ones zero m h = let z : m ≡ 0 = omega arith in rw z (unfold ones ones_in in refl)
count_ones (suc n) m h = ones_step m ∙ ap (λ (k : ℕ). m % 2 + k) (count_ones n (m / 2) (omega (arith, pow-suc 2 n)))

-- a mask stays below a power of two above its bits
pub with-lt : (w m e : ℕ) → e < w → m < 2 ^ w → with_bit m e < 2 ^ w
unfolding with_bit
with-lt zero m e h k = absurd (omega arith)
with-lt (suc w) m zero h k = omega (arith, pow-suc 2 w)
with-lt (suc w) m (suc e) h k = omega (arith, pow-suc 2 w, with-lt w (m / 2) e (omega arith) (omega (arith, pow-suc 2 w)))

pub without-le : (m e : ℕ) → without_bit m e ≤ m
unfolding without_bit
without-le m zero = omega arith
without-le m (suc e) = omega (arith, without-le (m / 2) e)

-- and has no bit there or above
pub bit_below : (w m e : ℕ) → m < 2 ^ w → bit m e ≡ true → e < w
bit_below w m e h z = by (ltb e w) (λ q. ltb-true e w q) (λ q. let p : 2 ^ w ≤ 2 ^ e = pow_mono (ltb-false e w q) in omega (arith, p, clear-set m e z, h))

-- setting a bit that is clear counts one more, and one that is set no more
pub bits-with : (n m e : ℕ) → e < n → bit_count n (with_bit m e) ≡ bit_count n m + cond (bit m e) 0 1
unfolding bit_count with_bit bit
bits-with zero m e h = absurd (omega arith)
bits-with (suc n) m zero h = let q : (m / 2 * 2 + 1) / 2 ≡ m / 2 = omega arith in rw q (grind arith)
bits-with (suc n) m (suc e) h = let q : (with_bit (m / 2) e * 2 + m % 2) / 2 ≡ with_bit (m / 2) e = omega arith in rw (q, bits-with n (m / 2) e (omega arith)) (omega arith)

pub bits-without : (n m e : ℕ) → e < n → bit_count n (without_bit m e) + cond (bit m e) 1 0 ≡ bit_count n m
unfolding bit_count without_bit bit
bits-without zero m e h = absurd (omega arith)
bits-without (suc n) m zero h = let q : m / 2 * 2 / 2 ≡ m / 2 = omega arith in rw q (grind arith)
bits-without (suc n) m (suc e) h =
    let q : (without_bit (m / 2) e * 2 + m % 2) / 2 ≡ without_bit (m / 2) e = omega arith in
    let ih = bits-without n (m / 2) e (omega arith) in
    rw q (omega arith)
