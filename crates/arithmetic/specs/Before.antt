-- Agreement as the Rust has it, `standing::agreement` and `Agreement::agrees`, and as it was here at first: a
-- chi-square and its limit, the first infinite where nothing was measured. No contract cites it: specs/Claims says how agreement stands to it. What is
-- compared with the Rust is the library, whose numbers are these by that.
-- Source: docs/REFERENCE.md, 'Agreement', and standing.rs of sky-commons/tally.
use Rattle.std.specs.Prelude.{ℕ, Bool, false, cond, List, Float, Option, Some, None}
use Rattle.std.specs.Float.{inf}
use Rattle.std.specs.Float.Ieee.{le}
use Rattle.std.specs.Float.Ieee.Scale.{finite}
use Rattle.geometry.specs.Linalg.{cholesky_of}
use Rattle.geometry.specs.declared.linalg.Covariance.{Covariance}
use Rattle.arithmetic.specs.Agree.{limit_of, rows_of, matrix_of, sum_under, difference_of, three_of}
use Rattle.arithmetic.specs.declared.standing.Claimed.{Claimed}
use Rattle.arithmetic.specs.declared.standing.Measure.{Measure}

-- the squared length of enu under a factor, infinite where there is none
unfoldable pub length_before : ℕ → List Float → Option (List Float) → Float
length_before n enu None = inf false
length_before n enu (Some factor) = sum_under n enu factor

unfoldable pub chi_square_before : Bool → Covariance → List Float → Float
chi_square_before three c enu = length_before (rows_of three) enu (cholesky_of (rows_of three) (matrix_of three c))

-- what is not finite is infinite
unfoldable pub finite_or : Float → Float
finite_or x = cond (finite x) x (inf false)

unfoldable pub agreement_before : Claimed → Claimed → Measure
agreement_before smaller larger =
    let three = three_of smaller larger in
    record {
      chi2 = finite_or (chi_square_before three smaller.covariance (difference_of smaller larger));
      limit = limit_of three;
    }

unfoldable pub agreed_before : Measure → Bool
agreed_before m = le m.chi2 m.limit
