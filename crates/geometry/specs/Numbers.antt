-- Binary64 numbers as the definitions of this crate write them, operation by operation.
-- Each operation rounds once, to the nearest value and at a tie to the even one. None is fused with another.
-- Source: docs/REFERENCE.md, 'Chi-square', and IEEE 754-2019, 4.3.1 and 5.4.1.
use Rattle.std.specs.Prelude.{ℕ, ◌^◌, Bool, false, ◌||◌, pos, Float}
use Rattle.std.specs.Float.{binary64}
use Rattle.std.specs.Float.Ieee.{round, of_int, is_nan, le}
use Rattle.std.specs.Float.Ieee as I

infixl 68 ◌⊕◌ ◌⊖◌
infixl 69 ◌⊗◌ ◌⊘◌
abbrev pub ◌⊕◌ : Float → Float → Float
x ⊕ y = I.add binary64 x y

abbrev pub ◌⊖◌ : Float → Float → Float
x ⊖ y = I.sub binary64 x y

abbrev pub ◌⊗◌ : Float → Float → Float
x ⊗ y = I.mul binary64 x y

abbrev pub ◌⊘◌ : Float → Float → Float
x ⊘ y = I.div binary64 x y

-- a whole number: 1000.0 is `whole 1000`
abbrev pub whole : ℕ → Float
whole n = of_int binary64 (pos n)

-- the value nearest to digits / 10 ^ places: 16.266 is `decimal 16266 3`
unfoldable pub from_decimal : ℕ → ℕ → Float
from_decimal digits places = round binary64 false digits (10 ^ places)

-- Rust's `x.is_nan() || x <= 0.0`
abbrev pub not_above : Float → Bool
not_above x = is_nan x || le x (whole 0)
