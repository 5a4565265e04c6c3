-- The square root of a binary64, worked out from its bits: to nearest, ties to even; of a negative value that is not zero, and of NaN,
-- it is NaN.
-- `SquareRoot` says what IEEE 754 asks of a square root, without a way to find it, and proofs/Ieee754 that this is it.
use Rattle.std.specs.Prelude.{ℕ, zero, suc, ◌+◌, ◌-◌, ◌*◌, ◌/◌, ◌%◌, ◌^◌, cond, ◌==◌, from_bits, nat_le, to_bits, Float}
use Rattle.std.specs.Int.Count.{count_leading_zeros}
use Rattle.std.specs.Float.{nan, binary64}
use Rattle.std.specs.Float.Ieee.Nearest.{closest}

-- q or q + 1, by whether the square of the second is within n
abbrev pub digit : ℕ → ℕ → ℕ
digit q n = cond (nat_le ((q + 1) * (q + 1)) n) (q + 1) q

-- the whole part of the root of an n below 4 ^ d: the root of n / 4 twice, and one digit more
unfoldable pub isqrt : ℕ → ℕ → ℕ
isqrt zero n = 0
isqrt (suc d) n = digit (2 * isqrt d (n / 4)) n

-- twice the whole part q of a root of n, and one more where q * q is not n
abbrev pub sticky : ℕ → ℕ → ℕ
sticky n q = 2 * q + cond (q * q == n) 0 1

-- for an m from 2 ^ 52 and below 2 ^ 54: the root of m * 4 ^ 28 in 55 digits, and a last digit that says whether it is inexact
unfoldable pub digits_of : ℕ → ℕ
digits_of m = sticky (m * 4 ^ 28) (isqrt 55 (m * 4 ^ 28))

-- The root of m * 2 ^ (e - 2128), for an m of 53 digits and an e from 1002 to 3099: the digits rounded to 53, to the nearest, above them
-- the exponent's field. The leading digit adds one to the field, and one more where rounding gives 2 ^ 53.
unfoldable pub root_of : ℕ → ℕ → Float
root_of m e = from_bits binary64 ((e / 2 - 16) * 2 ^ 52 + closest (digits_of (m * (1 + e % 2))) 8)

-- of a bit pattern with its sign clear: the exponent's field, one for the subnormals, and the digits with the leading one
abbrev pub field_of : ℕ → ℕ
field_of b = cond (b / 2 ^ 52 == 0) 1 (b / 2 ^ 52)

abbrev pub digits_in : ℕ → ℕ
digits_in b = cond (b / 2 ^ 52 == 0) (b % 2 ^ 52) (2 ^ 52 + b % 2 ^ 52)

-- a positive finite value: the leading digit is brought to the 53rd place
unfoldable pub root_finite : ℕ → Float
root_finite b =
    root_of (digits_in b * 2 ^ (count_leading_zeros 64 (digits_in b) - 11)) (field_of b + 1064 - count_leading_zeros 64 (digits_in b))

-- a zero, the infinity and a NaN are their own roots, and a negative value has none
unfoldable pub root_bits : ℕ → Float
root_bits b =
    cond (b % 2 ^ 63 == 0) (from_bits binary64 b)
    (cond (nat_le (2 ^ 63) b) nan
    (cond (nat_le 0x7ff0_0000_0000_0000 b) (from_bits binary64 b) (root_finite b)))

unfoldable pub root : Float → Float
root x = root_bits (to_bits binary64 x)
