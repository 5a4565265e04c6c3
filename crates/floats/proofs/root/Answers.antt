use Rattle.floats.specs.Root.{root}
use Rattle.floats.proofs.root.Goals as goal

pub returns : goal.returns
unfolding root
returns c = rw (c.root_bits.ensures, c.to_bits.ensures)
