use Rattle.std.proofs.Common.{◌≡◌, true, sym, refl, ◌∙◌, le-ltb, lt-ltb}
use lib.Ieee.{Float, nan, inf, fin, binary64, is_nan, of_bits, div}
use lib.Ieee.Bits.{nan_bits_is, nan_bits_above}
use Rattle.floats.proofs.of_bits.Goals as goal

only_nan : (x : Float) → is_nan x ≡ true → x ≡ nan
unfolding is_nan
only_nan nan h = refl
only_nan (inf s) h = cc
only_nan (fin s m e) h = cc

zero_by_zero : div binary64 (of_bits binary64 0) (of_bits binary64 0) ≡ nan
unfolding div of_bits
zero_by_zero = refl

pub returns-then-n-gt-INFINITY : goal.returns-then-n-gt-INFINITY
returns-then-n-gt-INFINITY c =
    let n = c.args.n in
    zero_by_zero ∙ sym (only_nan (of_bits binary64 n) (sym (nan_bits_is binary64 n) ∙ nan_bits_above binary64 n ∙ lt-ltb _ _ c.if-n-gt-INFINITY.true))

pub float_from_bits-result : goal.float_from_bits-result
float_from_bits-result c = rw (nan_bits_above binary64 c.args.n ∙ le-ltb _ _ c.if-n-gt-INFINITY.false) tt
