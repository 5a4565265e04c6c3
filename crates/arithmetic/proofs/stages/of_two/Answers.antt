use lib.Ieee.{of_bits, round}
use Rattle.geometry.specs.Numbers.{from_decimal}
use Rattle.arithmetic.specs.Agree.{limit_of}
use Rattle.arithmetic.proofs.stages.of_two.Goals as goal

pub returns : goal.returns
unfolding limit_of from_decimal round of_bits
returns c = c.outcome.ensures
