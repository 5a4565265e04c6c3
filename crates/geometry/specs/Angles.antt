-- The sine and the cosine of an angle v in 1e-7 degree: a series, its quadrant chosen by ranges of v (docs/REFERENCE.md, 'Agreement and decision').
-- Formula has the quadrant by a division that rounds down, and Claims that both give the same for every i32.
use Rattle.std.specs.Prelude.{ℕ, zero, suc, ◌*◌, ◌^◌, false, cond, ℤ, pos, neg_ℤ, ◌-ℤ◌, ◌*ℤ◌, Float}
use mathlib.Core.List.{[], ◌∷◌, foldl}
use Rattle.std.specs.Int.Signed.{lt_z}
use Rattle.std.specs.Float.{binary64}
use Rattle.std.specs.Float.Ieee.{round, neg, of_int}
use Rattle.geometry.specs.Numbers.{◌⊕◌, ◌⊗◌, ◌⊘◌, whole, from_decimal}
use Rattle.geometry.specs.declared.angles.Quadrant.{Quadrant}
use Rattle.geometry.specs.declared.angles.Quadrant.TheVariants.{MinusTwo, MinusOne, Zero, One, Two}
use Rattle.geometry.specs.declared.angles.Turn.{Turn}

-- the quadrant of v: five ranges, each up to the next one's first angle
abbrev pub quadrant_of : ℤ → Quadrant
quadrant_of v =
    cond (lt_z v (neg_ℤ (pos 1_350_000_000))) MinusTwo
    (cond (lt_z v (neg_ℤ (pos 450_000_000))) MinusOne
    (cond (lt_z v (pos 450_000_000)) Zero
    (cond (lt_z v (pos 1_350_000_000)) One Two)))

-- q, the number of right angles that the quadrant's angles are nearest to
abbrev pub right_angles : Quadrant → ℤ
right_angles MinusTwo = neg_ℤ (pos 2)
right_angles MinusOne = neg_ℤ (pos 1)
right_angles Zero = pos 0
right_angles One = pos 1
right_angles Two = pos 2

-- r = v - 900,000,000 * q
abbrev pub rest_of : ℤ → ℤ → ℤ
rest_of q v = v -ℤ pos 900_000_000 *ℤ q

-- The value nearest to pi / 180, from pi's first 35 decimals. (Pi cut after them and the next number of 35 decimals give
-- the same value: `NearestPi` of Claims.)
abbrev pub pi_digits : ℕ
pi_digits = 3_14159_26535_89793_23846_26433_83279_50288

unfoldable pub degree : Float
degree = round binary64 false pi_digits (180 * 10 ^ 35)

-- t is r as f64, times 1e-7, times the value nearest to pi / 180
unfoldable pub radians_of : ℤ → Float
radians_of r = of_int binary64 r ⊗ from_decimal 1 7 ⊗ degree

unfoldable pub factorial : ℕ → ℕ
factorial zero = 1
factorial (suc n) = suc n * factorial n

-- 1.0 divided by n!
unfoldable pub coefficient : ℕ → Float
coefficient n = whole 1 ⊘ whole (factorial n)

-- one step: times u, then plus the next lower coefficient
abbrev pub horner_step : Float → Float → Float → Float
horner_step u sum next = sum ⊗ u ⊕ next

unfoldable pub sine_series : Float → Float
sine_series u =
    foldl (horner_step u) (coefficient 17)
    (neg (coefficient 15)
    ∷ coefficient 13
    ∷ neg (coefficient 11)
    ∷ coefficient 9
    ∷ neg (coefficient 7)
    ∷ coefficient 5
    ∷ neg (coefficient 3)
    ∷ coefficient 1
    ∷ [])

unfoldable pub cosine_series : Float → Float
cosine_series u =
    foldl (horner_step u) (coefficient 16)
    (neg (coefficient 14)
    ∷ coefficient 12
    ∷ neg (coefficient 10)
    ∷ coefficient 8
    ∷ neg (coefficient 6)
    ∷ coefficient 4
    ∷ neg (coefficient 2)
    ∷ coefficient 0
    ∷ [])

-- s and c: the sine and the cosine of t
abbrev pub sine_of : Float → Float
sine_of t = sine_series (t ⊗ t) ⊗ t

abbrev pub cosine_of : Float → Float
cosine_of t = cosine_series (t ⊗ t)

-- which of the two is the sine of v and which its cosine, and their signs
abbrev pub turn_of : Quadrant → Float → Float → Turn
turn_of MinusTwo s c = record { sin = neg s; cos = neg c }
turn_of MinusOne s c = record { sin = neg c; cos = s }
turn_of Zero s c = record { sin = s; cos = c }
turn_of One s c = record { sin = c; cos = neg s }
turn_of Two s c = record { sin = neg s; cos = neg c }

unfoldable pub sincos_of : ℤ → Turn
sincos_of v =
    let q = quadrant_of v in
    let t = radians_of (rest_of (right_angles q) v) in
    turn_of q (sine_of t) (cosine_of t)
