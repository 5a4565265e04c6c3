-- What is answered of an agreement: its number, and what was measured; and the deviation of a covariance (docs/REFERENCE.md, 'Agreement' and 'Operations').
use Rattle.std.specs.Prelude.{ℕ, cond, Float, Option, Some, None}
use Rattle.std.specs.Float.Ieee.{lt}
use Rattle.floats.specs.Root.{root}
use Rattle.geometry.specs.Numbers.{◌⊕◌, ◌⊗◌, whole, from_decimal}
use Rattle.geometry.specs.declared.linalg.Covariance.{Covariance}
use Rattle.arithmetic.specs.declared.standing.Measure.{Measure}
use Rattle.arithmetic.specs.declared.standing.Agreement.{Agreement}
use Rattle.arithmetic.specs.declared.standing.Agreement.TheVariants.{Inside, Outside, Unmeasurable}

-- the number of each outcome, as it is answered
unfoldable pub agreement_number : Agreement → ℕ
agreement_number (Inside m) = 0
agreement_number (Outside m) = 1
agreement_number Unmeasurable = 2

unfoldable pub measure_in : Agreement → Option Measure
measure_in (Inside m) = Some m
measure_in (Outside m) = Some m
measure_in Unmeasurable = None

-- (0.5 * (xx + yy)).max(0.0).sqrt(), where Rust's `max` drops a NaN
unfoldable pub sigma_of : Covariance → Float
sigma_of c =
    let mean = from_decimal 5 1 ⊗ (c.xx ⊕ c.yy) in
    root (cond (lt (whole 0) mean) mean (whole 0))
