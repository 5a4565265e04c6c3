use mir.Facts.{to_z-of_z}
use mir.Syntax.{w32}
use lib.Ieee.{of_int, of_bits}
use Rattle.arithmetic.proofs.stages.metres.Goals as goal

pub returns : goal.returns
unfolding of_int of_bits
returns c = rw (to_z-of_z {w = w32} (record { sfits = c.unwrap_or.type_inv }), c.unwrap_or.ensures)
