-- What is claimed of agreement, beside that the code gives what Agree says. Each statement is a type; src/claims.rt has a function whose contract
-- it is.
-- Source: docs/REFERENCE.md, 'Agreement' and 'Chi-square'.
use Rattle.std.specs.Prelude.{◌≡◌, true, false, ◌↔◌, List, ◌+◌, Float, Option, Some, None}
use Rattle.std.specs.Float.{inf, nan, binary64}
use Rattle.std.specs.Float.Ieee.{of_bits, to_bits, is_nan, le, lt}
use Rattle.std.specs.Float.Ieee.Scale.{finite}
use Rattle.geometry.specs.Numbers.{◌⊕◌, ◌⊗◌, whole, from_decimal}
use Rattle.geometry.specs.Formula.{formula_sincos}
use Rattle.geometry.specs.Claims.{InI32}
use Rattle.geometry.specs.Linalg.{cholesky_of}
use Rattle.arithmetic.specs.Agree.{limit_of, geodetic_of, rows_of, matrix_of, sum_under, difference_of, three_of, agreement_under, agreement_of, agrees_of, chi_square_in}
use Rattle.arithmetic.specs.Answers.{measure_in, sigma_of}
use Rattle.arithmetic.specs.Bits.{stored_bits, stored_chi_square}
use Rattle.arithmetic.specs.Before.{agreement_before, agreed_before}
use Rattle.geometry.specs.declared.linalg.Covariance.{Covariance}
use Rattle.arithmetic.specs.declared.standing.Claimed.{Claimed}
use Rattle.arithmetic.specs.declared.standing.Measure.{Measure}
use Rattle.arithmetic.specs.declared.standing.Agreement.TheVariants.{Inside, Outside, Unmeasurable}
use Rattle.arithmetic.specs.declared.standing.ChiSquare.TheVariants.{Measured}

-- ---- the outcomes

-- inside and outside there is a number: no NaN, and no infinity
abbrev pub FiniteNumbers : Type 0
FiniteNumbers =
    (smaller larger : Claimed) (m : Measure)
    → measure_in (agreement_of smaller larger) ≡ Some m
    → (is_nan m.chi2 ≡ false) × (finite m.chi2 ≡ true)

-- inside is exactly 'at most the limit', and outside 'above the limit'
abbrev pub InsideExactlyWhen : Type 0
InsideExactlyWhen =
    (smaller larger : Claimed) (m : Measure)
    → (agreement_of smaller larger ≡ Inside m) ↔ ((measure_in (agreement_of smaller larger) ≡ Some m) × (le m.chi2 m.limit ≡ true))

abbrev pub OutsideExactlyWhen : Type 0
OutsideExactlyWhen =
    (smaller larger : Claimed) (m : Measure)
    → (agreement_of smaller larger ≡ Outside m) ↔ ((measure_in (agreement_of smaller larger) ≡ Some m) × (lt m.limit m.chi2 ≡ true))

-- the factor that `agreement_of` solves with, and the sum that it gets
abbrev pub factor_under : Claimed → Claimed → Option (List Float)
factor_under smaller larger = cholesky_of (rows_of (three_of smaller larger)) (matrix_of (three_of smaller larger) smaller.covariance)

abbrev pub sum_with : Claimed → Claimed → List Float → Float
sum_with smaller larger factor = sum_under (rows_of (three_of smaller larger)) (difference_of smaller larger) factor

-- Cholesky refuses the smaller fix's covariance, or the sum is a NaN or an infinity.
pub data NothingMeasured (smaller larger : Claimed) : Type 0 where
  refused : factor_under smaller larger ≡ None → NothingMeasured smaller larger
  overflows : (factor : List Float) → factor_under smaller larger ≡ Some factor → finite (sum_with smaller larger factor) ≡ false → NothingMeasured smaller larger

-- it is unmeasurable exactly where there is nothing to measure with, and the number is the sum elsewhere
abbrev pub UnmeasurableExactlyWhen : Type 0
UnmeasurableExactlyWhen = (smaller larger : Claimed) → (agreement_of smaller larger ≡ Unmeasurable) ↔ NothingMeasured smaller larger

abbrev pub ElseTheSum : Type 0
ElseTheSum =
    (smaller larger : Claimed) (factor : List Float)
    → factor_under smaller larger ≡ Some factor
    → finite (sum_with smaller larger factor) ≡ true
    → measure_in (agreement_of smaller larger) ≡ Some (record { chi2 = sum_with smaller larger factor; limit = limit_of (three_of smaller larger) })

-- ---- against agreement as it was before

-- unmeasurable is each case that gave positive infinity before, and no other
abbrev pub UnmeasurableWasInfinite : Type 0
UnmeasurableWasInfinite = (smaller larger : Claimed) → (agreement_of smaller larger ≡ Unmeasurable) ↔ ((agreement_before smaller larger).chi2 ≡ inf false)

-- inside and outside have the numbers of before
abbrev pub NumbersAsBefore : Type 0
NumbersAsBefore = (smaller larger : Claimed) (m : Measure) → measure_in (agreement_of smaller larger) ≡ Some m → agreement_before smaller larger ≡ m

-- and what agrees is what agreed
abbrev pub AgreesAsBefore : Type 0
AgreesAsBefore = (smaller larger : Claimed) → agrees_of (agreement_of smaller larger) ≡ agreed_before (agreement_before smaller larger)

-- a track's bytes still hold infinity there: what is stored is the bits of before, and is read back as it was
abbrev pub BitsAsBefore : Type 0
BitsAsBefore = (smaller larger : Claimed) → stored_bits (chi_square_in (agreement_of smaller larger)) ≡ to_bits binary64 (agreement_before smaller larger).chi2

abbrev pub StoredReadBack : Type 0
StoredReadBack = (smaller larger : Claimed) → stored_chi_square (stored_bits (chi_square_in (agreement_of smaller larger))) ≡ chi_square_in (agreement_of smaller larger)

-- ---- the position

-- the sines and cosines that a fix is placed by are those of the formula with a division that rounds down, for all angles of 32 bits
abbrev pub PlacedByFormula : Type 0
PlacedByFormula =
    (claim : Claimed)
    → InI32 claim.lat
    → InI32 claim.lon
    → ((geodetic_of claim).lat ≡ formula_sincos claim.lat) × ((geodetic_of claim).lon ≡ formula_sincos claim.lon)

-- ---- the limit, and a covariance of zeros

-- the next f64 above a positive one
abbrev pub next_up : Float → Float
next_up x = of_bits binary64 (to_bits binary64 x + 1)

-- a chi-square with both heights
abbrev pub with_heights : Float → Measure
with_heights chi2 = record { chi2 = chi2; limit = limit_of true }

-- 1: a chi-square of 16.266 with both heights is inside and agrees, and the next f64 is outside and does not
abbrev pub Position1 : Type 0
Position1 =
    let edge = from_decimal 16_266 3 in
    (agreement_under (limit_of true) (Measured edge) ≡ Inside (with_heights edge))
    × (agrees_of (Inside (with_heights edge)) ≡ true)
    × (agreement_under (limit_of true) (Measured (next_up edge)) ≡ Outside (with_heights (next_up edge)))
    × (agrees_of (Outside (with_heights (next_up edge))) ≡ false)

abbrev pub zero_covariance : Covariance
zero_covariance = record { xx = whole 0; xy = whole 0; xz = whole 0; yy = whole 0; yz = whole 0; zz = whole 0 }

-- 2: a fix whose covariance is zero is unmeasurable against every fix, so at its own position too, with heights and without, and disagrees
abbrev pub Position2 : Type 0
Position2 =
    (smaller larger : Claimed)
    → smaller.covariance ≡ zero_covariance
    → (agreement_of smaller larger ≡ Unmeasurable) × (agrees_of (agreement_of smaller larger) ≡ false)

-- ---- the horizontal sigma

-- it is 0 where the mean variance is not above zero, and where the sum of the two is a NaN (Rust's `max` drops it)
abbrev pub SigmaOfNoVariance : Type 0
SigmaOfNoVariance = (c : Covariance) → lt (whole 0) (from_decimal 5 1 ⊗ (c.xx ⊕ c.yy)) ≡ false → sigma_of c ≡ whole 0

abbrev pub SigmaOfNan : Type 0
SigmaOfNan = (c : Covariance) → c.xx ⊕ c.yy ≡ nan → sigma_of c ≡ whole 0
