use Rattle.std.proofs.Common.{◌≡◌, false, not, T, sym, refl, ap, ◌∙◌, subst}
use lib.Ieee.{Float, nan, inf, fin, binary64, is_nan, to_bits, ne}
use lib.Ieee.Compare.{differs_from_itself}
use Rattle.floats.proofs.to_bits.Goals as goal

no_nan : (x : Float) → ne x x ≡ false → T (not (is_nan x))
unfolding is_nan ne
no_nan nan h = subst T h tt
no_nan (inf s) h = tt
no_nan (fin s m e) h = tt

nan-bits : to_bits binary64 nan ≡ 0x7ff8_0000_0000_0000
unfolding to_bits
nan-bits = refl

pub returns-then-x : goal.returns-then-x
returns-then-x c = sym (ap (to_bits binary64) (differs_from_itself c.args.x (subst T (sym c.if-x.true) tt)) ∙ nan-bits)

pub float_to_bits-result : goal.float_to_bits-result
float_to_bits-result c = no_nan _ c.if-x.false
