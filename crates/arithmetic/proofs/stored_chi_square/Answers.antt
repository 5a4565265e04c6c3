use mathlib.Core.Path.{◌≡◌}
use borrow.Author.Tests.{ne_eqb}
use Rattle.arithmetic.specs.Bits.{infinity, stored_chi_square}
use Rattle.arithmetic.proofs.stored_chi_square.Goals as goal

pub returns-then-bits-eq-INFINITY : goal.returns-then-bits-eq-INFINITY
unfolding stored_chi_square
returns-then-bits-eq-INFINITY c =
    let e : c.args.bits ≡ infinity = c.if-bits-eq-INFINITY.true in
    rw e

pub returns : goal.returns
unfolding stored_chi_square
returns c = rw (c.of_bits.ensures, ne_eqb c.args.bits infinity c.if-bits-eq-INFINITY.false)
