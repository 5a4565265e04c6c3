use Rattle.std.proofs.Common.{◌+◌, ◌-◌, ◌*◌, ◌/◌, ◌%◌, ◌^◌, ◌≤◌, ◌∙◌, le-ltb, arith}
use lib.Ieee.{binary64}
use lib.Ieee.Bits.{nan_bits_above}
use Rattle.floats.specs.Root.{root_of}
use Rattle.floats.proofs.root_of.Goals as goal

pub float_from_bits-result : goal.float_from_bits-result
float_from_bits-result c =
    let bits = (c.args.e / 2 - 16) * 2 ^ 52 + c.rounded.result in
    let finite : bits % 2 ^ 63 ≤ 0x7ff0_0000_0000_0000 = omega (arith, c.requires, c.rounded.ensures.1) in
    rw (nan_bits_above binary64 bits ∙ le-ltb _ _ finite) tt

pub returns : goal.returns
unfolding root_of
returns c = rw c.rounded.ensures.0
