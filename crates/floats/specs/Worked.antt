-- Roots, worked out. The contract of `roots_worked` names them; each is proved by computation in proofs/Worked.
-- Source: docs/REFERENCE.md, 'Chi-square', and IEEE 754-2019, 5.4.1.
use Rattle.std.specs.Prelude.{◌≡◌, ℕ, pos, negsuc}
use Rattle.std.specs.Float.{binary64}
use Rattle.std.specs.Float.Ieee.{nan, of_int, of_bits, to_bits}
use Rattle.floats.specs.Root.{root}

-- the bits of the root of the number that has these bits
abbrev pub root_of_bits : ℕ → ℕ
root_of_bits b = to_bits binary64 (root (of_bits binary64 b))

pub record RootsWorked : Type 0 where
  pub of_4 : root (of_int binary64 (pos 4)) ≡ of_int binary64 (pos 2)
  pub of_2 : to_bits binary64 (root (of_int binary64 (pos 2))) ≡ 0x3ff6_a09e_667f_3bcd
  -- of 0.25: 0.5
  pub of_quarter : root (of_bits binary64 0x3fd0_0000_0000_0000) ≡ of_bits binary64 0x3fe0_0000_0000_0000
  -- of 2 ^ -1074: 2 ^ -537
  pub of_smallest : root_of_bits 1 ≡ 0x1e60_0000_0000_0000
  pub of_largest_subnormal : root_of_bits 0xf_ffff_ffff_ffff ≡ 0x1fff_ffff_ffff_ffff
  pub of_largest : root_of_bits 0x7fef_ffff_ffff_ffff ≡ 0x5fef_ffff_ffff_ffff
  -- of 1 + 2 ^ -52: 1
  pub of_next_above_one : root_of_bits 0x3ff0_0000_0000_0001 ≡ 0x3ff0_0000_0000_0000
  -- of 1 - 2 ^ -53: itself
  pub of_next_below_one : root_of_bits 0x3fef_ffff_ffff_ffff ≡ 0x3fef_ffff_ffff_ffff
  pub of_minus_zero : root_of_bits 0x8000_0000_0000_0000 ≡ 0x8000_0000_0000_0000
  pub of_minus_one : root (of_int binary64 (negsuc 0)) ≡ nan
  pub of_infinity : root_of_bits 0x7ff0_0000_0000_0000 ≡ 0x7ff0_0000_0000_0000
  -- of a NaN with a payload and a sign
  pub of_nan_pattern : root_of_bits 0xfff0_0000_0000_0001 ≡ 0x7ff8_0000_0000_0000
