use mathlib.Core.Path.{◌∙◌}
use lib.Ieee.{of_int, of_bits, round}
use Rattle.geometry.specs.Numbers.{from_decimal}
use Rattle.arithmetic.proofs.Sigma.{high-root, low-root}
use Rattle.arithmetic.proofs.horizontal_sigma_m.Goals as goal

pub returns-then-mean : goal.returns-then-mean
unfolding from_decimal round of_int of_bits
returns-then-mean c = c.root.ensures ∙ high-root c.args.c c.if-mean.true

pub returns : goal.returns
unfolding from_decimal round of_int of_bits
returns c = c.root-2.ensures ∙ low-root c.args.c c.if-mean.false
