use lib.Ieee.{div, of_bits, neg}
use Rattle.arithmetic.proofs.Comparing.{is_finite}
use Rattle.arithmetic.proofs.stages.is_finite.Goals as goal

pub returns-then-not-x : goal.returns-then-not-x
unfolding div of_bits neg
returns-then-not-x c = rw (is_finite c.args.x, c.if-not-x.true)

pub returns : goal.returns
unfolding div of_bits neg
returns c = rw (is_finite c.args.x, c.if-not-x.false)
