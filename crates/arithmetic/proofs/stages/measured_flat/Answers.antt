use Rattle.arithmetic.specs.Stages.{measured_of}
use Rattle.arithmetic.proofs.stages.measured_flat.Goals as goal

pub returns-then-three : goal.returns-then-three
unfolding measured_of
returns-then-three c = rw c.if-three.true

pub returns : goal.returns
unfolding measured_of
returns c = rw (c.of_two.ensures, c.flat_length.ensures, c.if-three.false)
