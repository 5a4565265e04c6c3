-- What is claimed of the texts of numbers (docs/REFERENCE.md, 'Text' and 'Session'). The contracts of src/claims.rt name it; the proofs are in
-- proofs/Readback and proofs/Rounding.
use Rattle.std.specs.Prelude.{ℕ, suc, Bool, true, false, eqb, Some, ◌++◌, ◌+◌, ◌-◌, ◌*◌, ◌/◌, ◌%◌, ◌^◌, ◌≤◌, ◌<◌, ◌≡◌, cond, List, [], ◌∷◌, ltb, ℤ, pos, negsuc, neg_ℤ, nat_abs, length, get_or}
use Prim.Native.String.{String}
use Rattle.std.specs.Int.Signed.{mag}
use Rattle.octets.specs.Ascii.{ascii}
use Rattle.text.specs.Numbers.{decimal, signed_decimal, hex}
use Rattle.text.specs.Reading.{decimal_value, stops, signed_at}
use Rattle.text.specs.Heights.{metres}
use Rattle.text.specs.Rounding.{NearestMetre}
use Rattle.text.specs.Decimals.{lowest_digits, with_decimals, signed_with_decimals}

-- the number that hex digits stand for, after those that stand for a
abbrev pub hex_digit_value : ℕ → ℕ
hex_digit_value c = cond (ltb c 97) (c - 48) (c - 87)

unfoldable pub hex_value : ℕ → List ℕ → ℕ
hex_value a [] = a
hex_value a (d ∷ t) = hex_value (a * 16 + hex_digit_value d) t

-- the decimal digits of a number of 64 bits stand for it
abbrev pub DecimalReadsBack : Type 0
DecimalReadsBack = (n : ℕ) → n < 2 ^ 64 → decimal_value 0 (decimal n) ≡ n

-- the first digit is not '0', but for zero, which is '0' alone
abbrev pub NoLeadingZero : Type 0
NoLeadingZero = (decimal 0 ≡ ascii "0") × ((n : ℕ) → n < 2 ^ 64 → 0 < n → get_or (decimal n) 0 0 ≡ 48 → ⊥)

-- a minus stands only before a number of 32 bits that is not zero
abbrev pub NoMinusZero : Type 0
NoMinusZero = (n : ℕ) → n < 2 ^ 31 → signed_decimal (negsuc n) ≡ ascii "-0" → ⊥

-- a number of 64 bits takes 1 to 20 digits
abbrev pub DecimalWidth : Type 0
DecimalWidth = (n : ℕ) → (1 ≤ length (decimal n)) × (length (decimal n) ≤ 20)

-- the k hex digits of a number that has no more stand for it
abbrev pub HexReadsBack : Type 0
HexReadsBack = (k n : ℕ) → n < 16 ^ k → (hex_value 0 (hex k n) ≡ n) × (length (hex k n) ≡ k)

-- ---- heights

-- what `metres` gives is the nearest whole metre, and of two equally near the even one, for every height; no other number is that
pub record MetresAreNearest : Type 0 where
  pub asked : (h : ℤ) → NearestMetre h (metres h)
  pub only : (h m : ℤ) → NearestMetre h m → m ≡ metres h

-- another rule, "half away from zero", in place of "half to the even metre"
abbrev pub half_away : ℤ → ℤ
half_away (pos n) = pos ((n + 500) / 1000)
half_away (negsuc n) = neg_ℤ (pos ((suc n + 500) / 1000))

-- only the exact halves of a metre are rounded otherwise by it
abbrev pub OnlyHalvesMoved : Type 0
OnlyHalvesMoved = (h : ℤ) → (nat_abs h % 1000 ≡ 500 → ⊥) → metres h ≡ half_away h

-- no height of 32 bits is written '-0'
abbrev pub HeightNotMinusZero : Type 0
HeightNotMinusZero = (h : ℤ) → mag h < 2 ^ 31 → signed_decimal (metres h) ≡ ascii "-0" → ⊥

-- a height of h millimetres is written so
abbrev pub Written : ℤ → String → Type 0
Written h text = signed_decimal (metres h) ≡ ascii text

pub record HeightTexts : Type 0 where
  -- exact halves, and a height below one
  pub under_half : Written (pos 499) "0"
  pub half : Written (pos 500) "0"
  pub one_and_half : Written (pos 1500) "2"
  pub two_and_half : Written (pos 2500) "2"
  pub minus_one_and_half : Written (neg_ℤ (pos 1500)) "-2"
  -- further exact halves, the heights beside one, and the two ends of an i32
  pub over_half : Written (pos 501) "1"
  pub minus_half : Written (neg_ℤ (pos 500)) "0"
  pub minus_over_half : Written (neg_ℤ (pos 501)) "-1"
  pub minus_two_and_half : Written (neg_ℤ (pos 2500)) "-2"
  pub greatest_half : Written (pos 2_147_483_500) "2147484"
  pub greatest : Written (pos 2_147_483_647) "2147484"
  pub least : Written (neg_ℤ (pos 2_147_483_648)) "-2147484"

-- ---- numbers with decimals

-- a number with k decimals is read back, and what stands behind it is left, where that does not begin with a digit
abbrev pub DecimalsReadBack : Type 0
DecimalsReadBack = (k : ℕ) (v : ℤ) (t : List ℕ) → nat_abs v < 2 ^ 64 → stops t ≡ true → signed_at k (signed_with_decimals k v ++ t) ≡ Some (v, t)

-- it begins with a minus exactly where it is below zero, so zero has none
abbrev pub is_below_zero : ℤ → Bool
is_below_zero (pos n) = false
is_below_zero (negsuc n) = true

abbrev pub MinusOnlyBelowZero : Type 0
MinusOnlyBelowZero = (k : ℕ) (v : ℤ) → eqb (get_or (signed_with_decimals k v) 0 0) 45 ≡ is_below_zero v

-- a leading '0' is the whole of the whole part
abbrev pub LeadingZeroAlone : Type 0
LeadingZeroAlone = (k n : ℕ) → n < 2 ^ 64 → get_or (with_decimals k n) 0 0 ≡ 48 → n / 10 ^ k ≡ 0

-- just k decimals
abbrev pub JustSoMany : Type 0
JustSoMany = (k n : ℕ) → length (lowest_digits k n) ≡ k

-- v with k decimals is written so
abbrev pub WrittenWith : ℕ → ℤ → String → Type 0
WrittenWith k v text = signed_with_decimals k v ≡ ascii text

pub record DecimalTexts : Type 0 where
  pub zero : WrittenWith 7 (pos 0) "0.0000000"
  -- the sign is not that of the whole part
  pub five_below : WrittenWith 7 (neg_ℤ (pos 5)) "-0.0000005"
  pub ten_degrees : WrittenWith 7 (pos 100_000_000) "10.0000000"
  pub least_degrees : WrittenWith 7 (neg_ℤ (pos 2_147_483_648)) "-214.7483648"
  pub no_height : WrittenWith 3 (pos 0) "0.000"
  pub one_below : WrittenWith 3 (neg_ℤ (pos 1)) "-0.001"
  pub least_height : WrittenWith 3 (neg_ℤ (pos 2_147_483_648)) "-2147483.648"
  -- without decimals there is no point
  pub whole : WrittenWith 0 (neg_ℤ (pos 12)) "-12"
