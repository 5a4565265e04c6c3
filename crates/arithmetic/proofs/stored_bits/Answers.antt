use mathlib.Core.Path.{sym, ap, ◌∙◌}
use Rattle.arithmetic.specs.Bits.{stored_bits}
use Rattle.arithmetic.proofs.stored_bits.Goals as goal

pub returns-in-Measured : goal.returns-in-Measured
unfolding stored_bits
returns-in-Measured c = c.to_bits.ensures ∙ sym (ap stored_bits c.in-Measured.is)

pub returns-in-Unmeasured : goal.returns-in-Unmeasured
unfolding stored_bits
returns-in-Unmeasured c = sym (ap stored_bits c.in-Unmeasured.is)
