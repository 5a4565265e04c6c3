-- A chi-square in 64 bits, as a track stores it: an f64, and positive infinity where there is no number.
-- Source: docs/REFERENCE.md, 'Track' among the layouts.
use Rattle.std.specs.Prelude.{ℕ, cond, eqb}
use Rattle.std.specs.Float.{binary64}
use Rattle.std.specs.Float.Ieee.{of_bits, to_bits}
use Rattle.arithmetic.specs.declared.standing.ChiSquare.{ChiSquare}
use Rattle.arithmetic.specs.declared.standing.ChiSquare.TheVariants.{Measured, Unmeasured}

-- the bits of the infinity
abbrev pub infinity : ℕ
infinity = 0x7ff0_0000_0000_0000

unfoldable pub stored_bits : ChiSquare → ℕ
stored_bits (Measured x) = to_bits binary64 x
stored_bits Unmeasured = infinity

-- what any stored bits say
unfoldable pub stored_chi_square : ℕ → ChiSquare
stored_chi_square bits = cond (eqb bits infinity) Unmeasured (Measured (of_bits binary64 bits))
