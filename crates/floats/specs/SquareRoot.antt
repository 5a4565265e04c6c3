-- What IEEE 754-2019 asks of square_root on binary64, with round_ties_to_even: a relation between an operand x and a result r.
-- It says which r is right and not how to find it. proofs/Ieee754 proves that it holds of `root` at every binary64 value,
-- and of no other result. `fits binary64 x` says that x is a binary64 value (lib.Ieee).
--
-- From the standard:
--   5.4.1  square_root(x) computes √x. It has a positive sign for every operand from 0 on, but square_root(−0) is −0.
--   7.2    of an operand below zero it is an invalid operation, which delivers a NaN.
--   6.1, 6.2  square_root(+∞) is +∞, and a NaN gives a NaN.
--   4.3.1  the result is the value nearest to the exact one; of two equally near, the one with an even last digit.
use Rattle.std.specs.Prelude.{◌≡◌, ℕ, zero, suc, ◌+◌, ◌-◌, ◌*◌, ◌/◌, ◌^◌, ◌<◌, Bool, true, false, T, Float}
use Rattle.std.specs.Float.{nan, inf, fin, binary64}
use Rattle.std.specs.Float.Ieee.{up, down, fits}
use Rattle.std.specs.Float.Ieee.Scale.{finite}
use Rattle.std.specs.Float.Ieee.Positive.{positive}

abbrev pub negative : Float → Bool
negative nan = false
negative (inf s) = s
negative (fin s m e) = s

-- The size of a finite value in units of binary64's smallest one, 2 ^ -1074. Every finite binary64 value is a whole number
-- of them, so nothing is lost (`units-value` of proofs/Pattern).
abbrev pub units : Float → ℕ
units nan = 0
units (inf s) = 0
units (fin s m e) = m * up e * 2 ^ 1074 / down e

-- |r − √x| < |y − √x|, in squares. r is above zero and of R units, y is of Y units, its sign is the Bool, and √x is √S units.
-- Of two different values r and y, r is the nearer to √x where √x lies on r's side of their middle, (r + y) / 2:
--   y above r:            √x < (r + y) / 2,  which is  4 S < (R + Y)²
--   y from +0 to below r: (r + y) / 2 < √x,  which is  (R + Y)² < 4 S
--   y from −0 down:       (r + y) / 2 < √x,  which is  (R − Y)² < 4 S,  where R − Y is 0 if Y is more than R
-- Of y = r nothing is asked.
abbrev pub Nearer : ℕ → ℕ → Bool → ℕ → Type 0
Nearer S R false Y = (R < Y → 4 * S < (R + Y) * (R + Y)) × (Y < R → (R + Y) * (R + Y) < 4 * S)
Nearer S R true Y = (R - Y) * (R - Y) < 4 * S

-- r is binary64's, finite and above zero, and nearer to √S units than any other finite value of binary64 is. It is strictly nearer:
-- there is no tie to settle.
pub record Nearest (S : ℕ) (r : Float) : Type 0 where
  pub held : T (fits binary64 r)
  pub above_zero : T (positive r)
  pub nearer : (y : Float) → T (fits binary64 y) → T (finite y) → Nearer S (units r) (negative y) (units y)

-- x of X units is X * 2 ^ -1074, so √x is √(X * 2 ^ 1074) units.
abbrev pub SquareRoot : Float → Float → Type 0
SquareRoot nan r = r ≡ nan
SquareRoot (inf false) r = r ≡ inf false
SquareRoot (inf true) r = r ≡ nan
SquareRoot (fin s zero e) r = r ≡ fin s zero e
SquareRoot (fin false (suc m) e) r = Nearest (units (fin false (suc m) e) * 2 ^ 1074) r
SquareRoot (fin true (suc m) e) r = r ≡ nan
