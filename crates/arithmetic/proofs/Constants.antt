-- The limits' bits, which a program prints too.
use mathlib.Core.Path.{◌≡◌, refl}
use mathlib.Core.Bool.{true, false}
use lib.Ieee.{binary64, round, to_bits}
use Rattle.geometry.specs.Numbers.{from_decimal}
use Rattle.arithmetic.specs.Agree.{limit_of}

pub bits :
    (to_bits binary64 (limit_of true) ≡ 0x403044189374bc6a)
    × (to_bits binary64 (limit_of false) ≡ 0x402ba18a86d71f36)
unfolding from_decimal limit_of round to_bits
bits = (refl, refl)
