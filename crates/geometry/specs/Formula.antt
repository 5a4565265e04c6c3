-- The formula for the sine and the cosine of an angle v that the ranges of Angles come from: q = floor((v + 450,000,000) / 900,000,000),
-- r = v - 900,000,000 q, and the choice by the remainder of q by 4. No contract cites it; that the ranges of Angles give the same is `RangesAreTheFormula` of Claims.
-- Source: docs/REFERENCE.md, 'Chi-square'.
use Rattle.std.specs.Prelude.{ℕ, zero, suc, ◌-◌, ◌/◌, ◌%◌, ℤ, pos, negsuc, ◌+ℤ◌, Float}
use Rattle.std.specs.Float.Ieee.{neg}
use Rattle.geometry.specs.Angles.{rest_of, radians_of, sine_of, cosine_of}
use Rattle.geometry.specs.declared.angles.Turn.{Turn}

-- the quotient rounded down, and the remainder from 0 up that it leaves: negsuc a is -(a + 1)
abbrev pub floor_div : ℤ → ℕ → ℤ
floor_div (pos a) d = pos (a / d)
floor_div (negsuc a) d = negsuc (a / d)

abbrev pub floor_mod : ℤ → ℕ → ℕ
floor_mod (pos a) d = a % d
floor_mod (negsuc a) d = d - 1 - a % d

-- q = floor((v + 450,000,000) / 900,000,000)
abbrev pub formula_q : ℤ → ℤ
formula_q v = floor_div (v +ℤ pos 450_000_000) 900_000_000

-- By the remainder of q by 4: for 0, 1, 2, 3 the sine of v is s, c, -s, -c and its cosine c, -s, -c, s.
abbrev pub formula_turn : ℕ → Float → Float → Turn
formula_turn zero s c = record { sin = s; cos = c }
formula_turn (suc zero) s c = record { sin = c; cos = neg s }
formula_turn (suc (suc zero)) s c = record { sin = neg s; cos = neg c }
formula_turn (suc (suc (suc k))) s c = record { sin = neg c; cos = s }

unfoldable pub formula_sincos : ℤ → Turn
formula_sincos v =
    let q = formula_q v in
    let t = radians_of (rest_of q v) in
    formula_turn (floor_mod q 4) (sine_of t) (cosine_of t)
