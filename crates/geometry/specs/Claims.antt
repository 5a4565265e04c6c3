-- What is claimed of the sine and the cosine of an angle, beside that the code gives what Angles says. Each statement is a type; the theorem of it has its
-- name, in proofs/Quadrants, proofs/Positions and proofs/Constants.
-- Source: docs/REFERENCE.md, 'Chi-square'.
use Rattle.std.specs.Prelude.{◌≡◌, ◌+◌, ◌*◌, ◌^◌, ◌<◌, false, ℤ, pos, neg_ℤ, ◌+ℤ◌, ◌*ℤ◌, ◌≤ℤ◌, ◌<ℤ◌, Float}
use Rattle.std.specs.Float.{binary64}
use Rattle.std.specs.Float.Ieee.{round, to_bits}
use Rattle.geometry.specs.Numbers.{from_decimal}
use Rattle.geometry.specs.Angles.{quadrant_of, right_angles, rest_of, turn_of, sincos_of, pi_digits, degree}
use Rattle.geometry.specs.Geodesy.{flattening, eccentricity2}
use Rattle.geometry.specs.Formula.{floor_div, floor_mod, formula_q, formula_turn, formula_sincos}
use Rattle.geometry.specs.declared.angles.Quadrant.{Quadrant}
use Rattle.geometry.specs.declared.angles.Quadrant.TheVariants.{MinusTwo, MinusOne, Zero, One, Two}

-- ---- the five ranges

-- the angles of each: from its first up to the next one's first
abbrev pub InRange : Quadrant → ℤ → Type 0
InRange MinusTwo v = v <ℤ neg_ℤ (pos 1_350_000_000)
InRange MinusOne v = (neg_ℤ (pos 1_350_000_000) ≤ℤ v) × (v <ℤ neg_ℤ (pos 450_000_000))
InRange Zero v = (neg_ℤ (pos 450_000_000) ≤ℤ v) × (v <ℤ pos 450_000_000)
InRange One v = (pos 450_000_000 ≤ℤ v) × (v <ℤ pos 1_350_000_000)
InRange Two v = pos 1_350_000_000 ≤ℤ v

-- each angle lies in the range of its quadrant, and in no other
pub record CoveredOnce : Type 0 where
  pub covered : (v : ℤ) → InRange (quadrant_of v) v
  pub once : (v : ℤ) (q : Quadrant) → InRange q v → quadrant_of v ≡ q

-- ---- the formula with a division that rounds down

-- which q and r the formula gives, for every whole number v
pub record QuadrantAndRest : Type 0 where
  pub whole_law : (v : ℤ) → v ≡ pos 900_000_000 *ℤ formula_q v +ℤ rest_of (formula_q v) v
  -- -450,000,000 ≤ r < 450,000,000, which is the range in the middle
  pub rest_in : (v : ℤ) → InRange Zero (rest_of (formula_q v) v)
  -- and which remainder by 4 it takes of q, for every whole number q
  pub fours : (q : ℤ) → q ≡ pos 4 *ℤ floor_div q 4 +ℤ pos (floor_mod q 4)
  pub below_four : (q : ℤ) → floor_mod q 4 < 4

-- ---- the ranges give what the formula gives

-- the angles of 32 bits
abbrev pub InI32 : ℤ → Type 0
InI32 v = (neg_ℤ (pos 2_147_483_648) ≤ℤ v) × (v ≤ℤ pos 2_147_483_647)

-- the angles whose q is from -2 to 2
abbrev pub InFive : ℤ → Type 0
InFive v = (neg_ℤ (pos 2_250_000_000) ≤ℤ v) × (v <ℤ pos 2_250_000_000)

pub record RangesAreTheFormula : Type 0 where
  -- every angle of 32 bits is one of these
  pub five : (v : ℤ) → InI32 v → InFive v
  -- for them and for no other the ranges give the formula's q
  pub quadrant : (v : ℤ) → InFive v → right_angles (quadrant_of v) ≡ formula_q v
  pub no_other : (v : ℤ) → right_angles (quadrant_of v) ≡ formula_q v → InFive v
  -- so also an r of at most half a right angle, the remainder by 4, and what that chooses
  pub rest : (v : ℤ) → InFive v → InRange Zero (rest_of (right_angles (quadrant_of v)) v)
  pub remainder : (v : ℤ) → InFive v → floor_mod (right_angles (quadrant_of v)) 4 ≡ floor_mod (formula_q v) 4
  pub turn : (v : ℤ) → InFive v → (s c : Float) → turn_of (quadrant_of v) s c ≡ formula_turn (floor_mod (formula_q v) 4) s c
  -- and the same sine and cosine
  pub sincos : (v : ℤ) → InFive v → sincos_of v ≡ formula_sincos v

-- ---- three angles at edges of the ranges

-- v = 450,000,000 gives q 1, 449,999,999 gives q 0, -450,000,001 gives q -1
abbrev pub Position4 : Type 0
Position4 =
    (right_angles (quadrant_of (pos 450_000_000)) ≡ pos 1)
    × (right_angles (quadrant_of (pos 449_999_999)) ≡ pos 0)
    × (right_angles (quadrant_of (neg_ℤ (pos 450_000_001))) ≡ neg_ℤ (pos 1))

-- ---- the edges

-- the ranges and the formula give v this q
abbrev pub Given : ℤ → Quadrant → Type 0
Given v q = (quadrant_of v ≡ q) × (formula_q v ≡ right_angles q)

-- the two ends of an i32, and the last and the first angle on either side of each edge
pub record Edges : Type 0 where
  pub least : Given (neg_ℤ (pos 2_147_483_648)) MinusTwo
  pub last_minus_two : Given (neg_ℤ (pos 1_350_000_001)) MinusTwo
  pub first_minus_one : Given (neg_ℤ (pos 1_350_000_000)) MinusOne
  pub last_minus_one : Given (neg_ℤ (pos 450_000_001)) MinusOne
  pub first_zero : Given (neg_ℤ (pos 450_000_000)) Zero
  pub last_zero : Given (pos 449_999_999) Zero
  pub first_one : Given (pos 450_000_000) One
  pub last_one : Given (pos 1_349_999_999) One
  pub first_two : Given (pos 1_350_000_000) Two
  pub greatest : Given (pos 2_147_483_647) Two

-- ---- the constants

-- pi lies between pi_digits / 10 ^ 35 and the next number of 35 decimals, and the two give one value for a degree
abbrev pub NearestPi : Type 0
NearestPi = round binary64 false (pi_digits + 1) (180 * 10 ^ 35) ≡ degree

-- the bits of 1e-7, of a degree in radians, and of the ellipsoid's two numbers
pub record ConstantBits : Type 0 where
  pub unit_bits : to_bits binary64 (from_decimal 1 7) ≡ 0x3e7ad7f29abcaf48
  pub degree_bits : to_bits binary64 degree ≡ 0x3f91df46a2529d39
  pub flattening_bits : to_bits binary64 flattening ≡ 0x3f6b775a84f3e128
  pub eccentricity2_bits : to_bits binary64 eccentricity2 ≡ 0x3f7b6b90f1fe94f0
