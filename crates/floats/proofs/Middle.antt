-- The root in whole numbers: `isqrt` is the whole part of the root, and the digits that are kept of it are within half of the last one of the root itself.
use Rattle.std.proofs.Common.{◌≡◌, ℕ, zero, suc, ◌+◌, ◌*◌, ◌/◌, ◌%◌, ◌^◌, ◌<◌, ◌≤◌, not, T, mul_assoc, add-mul, pow-suc, mul-add, mul_left_comm, arith, eqb→eq, leb→le}
use Prim.Native.Nat.{compare, Ordering}
use lib.Dec.{nleb→lt, is_le, compare_is_eq}
use lib.Ieee.{nearest}
use lib.Ieee.Nearest.{closest}
use Rattle.floats.specs.Root.{isqrt, digit, sticky}
use Rattle.floats.proofs.Square.{sq-le, next-sq}

-- the square of twice a number, of one more and of two more
twice-sq : (q : ℕ) → 2 * q * (2 * q) ≡ 4 * (q * q)
twice-sq q = simp (mul_assoc, mul_left_comm q 2 q) (omega arith)

odd-sq : (q : ℕ) → (2 * q + 1) * (2 * q + 1) ≡ 4 * (q * q) + 4 * q + 1
odd-sq q = simp (mul-add, add-mul, mul_assoc, mul_left_comm q 2 q) (omega arith)

pub record Whole (n q : ℕ) : Type 0 where
  pub low : q * q ≤ n
  pub high : n < (q + 1) * (q + 1)

digit-whole : (n q : ℕ) → Whole (n / 4) q → Whole n (digit (2 * q) n)
digit-whole n q w = record { low = grind (arith, w.low, twice-sq q); high = grind (arith, w.high, next-sq q, odd-sq q, next-sq (2 * q + 1)) }

pub isqrt-whole : (d n : ℕ) → n < 4 ^ d → Whole n (isqrt d n)
unfolding isqrt
isqrt-whole zero n h = record { low = omega arith; high = omega arith }
isqrt-whole (suc d) n h = digit-whole n (isqrt d (n / 4)) (isqrt-whole d (n / 4) (omega (arith, pow-suc 4 d)))

-- ---- S / 8 to the nearest whole number
by-eighth : (s : ℕ) (o : Ordering) → (T (is_le o) → s % 8 * 2 ≤ 8) → (T (not (is_le o)) → 8 < s % 8 * 2) → (T (compare_is_eq o) → s % 8 * 2 ≡ 8)
    → (8 * nearest (s / 8) o ≤ s + 4) × (s ≤ 8 * nearest (s / 8) o + 4)
by-eighth s Ordering.lt h k e = (omega arith, omega (arith, h tt))
by-eighth s Ordering.eq h k e = (omega (arith, e tt), omega (arith, e tt))
by-eighth s Ordering.gt h k e = (omega (arith, k tt), omega (arith, k tt))

pub near : (s : ℕ) → (8 * closest s 8 ≤ s + 4) × (s ≤ 8 * closest s 8 + 4)
near s = by-eighth s (compare (s % 8 * 2) 8) (leb→le (s % 8 * 2) 8) (nleb→lt (s % 8 * 2) 8) (eqb→eq (s % 8 * 2) 8)

-- ---- the root of n lies strictly between the two middles: an n that 8 divides is the square of neither
pub middle-sq : (j : ℕ) → (4 * j + 2) * (4 * j + 2) ≡ 16 * (j * j) + 16 * j + 4
middle-sq j = simp (mul-add, add-mul, mul_assoc, mul_left_comm j 4 j) (omega arith)

module _ (n q k : ℕ) (w : Whole n q) (eights : n % 8 ≡ 0) (k-is : k ≡ closest (sticky n q) 8) where
  around : (8 * k ≤ sticky n q + 4) × (sticky n q ≤ 8 * k + 4)
  around = rw k-is (near (sticky n q))

  at_most : n ≤ (4 * k + 2) * (4 * k + 2)
  at_most = grind (arith, around, sq-le q (4 * k + 2), sq-le (q + 1) (4 * k + 2), w.high)

  pub under-upper : n < (4 * k + 2) * (4 * k + 2)
  under-upper = omega (arith, at_most, middle-sq k)

  -- j is k - 1
  pub over-lower : (j : ℕ) → k ≡ j + 1 → (4 * j + 2) * (4 * j + 2) < n
  over-lower j s = grind (arith, around, sq-le (4 * j + 2) q, w.low, middle-sq j)
