-- The constants' bits, which a program prints too, and that pi's first 35 decimals decide the value nearest to pi / 180.
use Rattle.std.proofs.Common.{◌≡◌, ◌+◌, ◌*◌, ◌^◌, false, refl, sym, ◌∙◌}
use lib.Ieee.{binary64, round, of_int, of_bits, to_bits, div, mul, sub}
use Rattle.geometry.specs.Numbers.{from_decimal}
use Rattle.geometry.specs.Angles.{pi_digits, degree}
use Rattle.geometry.specs.Geodesy.{flattening, eccentricity2}
use Rattle.geometry.specs.Claims.{NearestPi, ConstantBits}

lower : degree ≡ of_bits binary64 0x3f91df46a2529d39
unfolding degree round of_bits
lower = refl

upper : round binary64 false (pi_digits + 1) (180 * 10 ^ 35) ≡ of_bits binary64 0x3f91df46a2529d39
unfolding round of_bits
upper = refl

pub nearest-pi : NearestPi
nearest-pi = upper ∙ sym lower

pub constant-bits : ConstantBits
unfolding from_decimal degree flattening eccentricity2 round of_int to_bits div mul sub
constant-bits = record { unit_bits = refl; degree_bits = refl; flattening_bits = refl; eccentricity2_bits = refl }
