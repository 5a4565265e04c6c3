-- Squares: their order, their bounds, the next one.
use Rattle.std.proofs.Common.{◌≡◌, ℕ, zero, suc, ◌+◌, ◌*◌, ◌<◌, ◌≤◌, not-suc-le-zero, lt_of_le_of_lt, le_of_lt, add-mul, mul-le-mul, mul-le-mul_left, mul-lt-mul_of_pos_right, mul-add, arith}

pub sq-le : (a b : ℕ) → a ≤ b → a * a ≤ b * b
sq-le a b h = mul-le-mul h h

pub sq-lt : (a b : ℕ) → a < b → a * a < b * b
sq-lt a b h =
    let p : 0 < b = omega arith in
    lt_of_le_of_lt (mul-le-mul_left a (le_of_lt h)) (mul-lt-mul_of_pos_right h p)

pub next-sq : (q : ℕ) → (q + 1) * (q + 1) ≡ q * q + 2 * q + 1
next-sq q = simp (mul-add, add-mul) (omega arith)

-- what has a square above something is not zero
pub some : (n s : ℕ) → n < s * s → 0 < s
some n zero h = absurd (not-suc-le-zero h)
some n (suc s) h = omega arith
