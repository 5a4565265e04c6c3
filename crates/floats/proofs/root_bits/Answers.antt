use Rattle.std.proofs.Common.{arith, ◌≡◌, refl}
use lib.Ieee.{nan, binary64, of_bits}
use Rattle.floats.specs.Root.{root_bits}
use Rattle.floats.proofs.root_bits.Goals as goal

-- the pattern that is written for a NaN reads as one
nan_is : of_bits binary64 0x7ff8_0000_0000_0000 ≡ nan
unfolding of_bits
nan_is = refl

pub returns-then-b-eq0 : goal.returns-then-b-eq0
unfolding root_bits
returns-then-b-eq0 c = grind arith

pub returns-then-b-ge-SIGN : goal.returns-then-b-ge-SIGN
unfolding root_bits
returns-then-b-ge-SIGN c = grind (arith, nan_is)

pub returns-then-b-ge-INFINITY : goal.returns-then-b-ge-INFINITY
unfolding root_bits
returns-then-b-ge-INFINITY c = grind arith

pub returns : goal.returns
unfolding root_bits
returns c = grind arith
