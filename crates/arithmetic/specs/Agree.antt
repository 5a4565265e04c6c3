-- Whether a larger fix lies within a smaller one's uncertainty: `standing::agreement` and `Agreement::agrees`, operation by operation (docs/REFERENCE.md, 'Agreement and decision').
use Rattle.std.specs.Prelude.{ℕ, ◌-◌, Bool, true, false, cond, ◌&&◌, List, [], ◌∷◌, ℤ, pos, Float, Option, Some, None, is_some, unwrap_or}
use Rattle.std.specs.Float.{binary64}
use Rattle.std.specs.Float.Ieee.{of_int, le, lt}
use Rattle.std.specs.Float.Ieee.Scale.{finite}
use Rattle.floats.specs.Root.{root}
use Rattle.geometry.specs.Numbers.{◌⊕◌, ◌⊗◌, ◌⊘◌, whole, from_decimal}
use Rattle.geometry.specs.Angles.{sincos_of}
use Rattle.geometry.specs.Geodesy.{to_ecef, enu_basis, sub_of, dot_of}
use Rattle.geometry.specs.Linalg.{element, cholesky_of, solve_of, sum_to}
use Rattle.geometry.specs.declared.geodesy.Geodetic.{Geodetic}
use Rattle.geometry.specs.declared.linalg.Covariance.{Covariance}
use Rattle.arithmetic.specs.declared.standing.Claimed.{Claimed}
use Rattle.arithmetic.specs.declared.standing.Measure.{Measure}
use Rattle.arithmetic.specs.declared.standing.Agreement.{Agreement}
use Rattle.arithmetic.specs.declared.standing.Agreement.TheVariants.{Inside, Outside, Unmeasurable}
use Rattle.arithmetic.specs.declared.standing.ChiSquare.{ChiSquare}
use Rattle.arithmetic.specs.declared.standing.ChiSquare.TheVariants.{Measured, Unmeasured}

-- AGREE_CHI2, with both heights, and AGREE_CHI2_2D: 16.266 and 13.815_51
unfoldable pub limit_of : Bool → Float
limit_of true = from_decimal 16_266 3
limit_of false = from_decimal 1_381_551 5

-- millimetres as metres; a height that is absent counts as 0
abbrev pub metres_of : Option ℤ → Float
metres_of height = of_int binary64 (unwrap_or height (pos 0)) ⊘ whole 1000

-- Claimed::geodetic
unfoldable pub geodetic_of : Claimed → Geodetic
geodetic_of claim =
    record {
      lat = sincos_of claim.lat;
      lon = sincos_of claim.lon;
      height_m = metres_of claim.height;
    }

-- the covariance's rows and columns: three with both heights, else those of east and north
abbrev pub rows_of : Bool → ℕ
rows_of true = 3
rows_of false = 2

unfoldable pub matrix_of : Bool → Covariance → List Float
matrix_of true c =
    c.xx ∷ c.xy ∷ c.xz
    ∷ c.xy ∷ c.yy ∷ c.yz
    ∷ c.xz ∷ c.yz ∷ c.zz ∷ []
matrix_of false c =
    c.xx ∷ c.xy
    ∷ c.xy ∷ c.yy ∷ []

-- the squared length of enu under a factor
unfoldable pub sum_under : ℕ → List Float → List Float → Float
sum_under n enu factor =
    let solved = solve_of n factor enu in
    sum_to (λ at. element enu at ⊗ element solved at) (n - 1)

-- There is no number where none was measured: a sum that is a NaN or an infinity is no number, and without a factor there is no sum.
unfoldable pub finitely : Float → ChiSquare
finitely x = cond (finite x) (Measured x) Unmeasured

unfoldable pub length_under : ℕ → List Float → Option (List Float) → ChiSquare
length_under n enu None = Unmeasured
length_under n enu (Some factor) = finitely (sum_under n enu factor)

unfoldable pub chi_square_of : Bool → Covariance → List Float → ChiSquare
chi_square_of three c enu = length_under (rows_of three) enu (cholesky_of (rows_of three) (matrix_of three c))

-- the larger fix's position from the smaller's, in east, north and up at the smaller's
unfoldable pub difference_of : Claimed → Claimed → List Float
difference_of smaller larger =
    let from = geodetic_of smaller in
    let basis = enu_basis from in
    let difference = sub_of (to_ecef (geodetic_of larger)) (to_ecef from) in
    dot_of basis.east difference ∷ dot_of basis.north difference ∷ dot_of basis.up difference ∷ []

-- whether both state a height
abbrev pub three_of : Claimed → Claimed → Bool
three_of smaller larger = is_some smaller.height && is_some larger.height

-- inside or outside, each with chi-square and limit, or unmeasurable without a number; a chi-square equal to its limit agrees
unfoldable pub agreement_under : Float → ChiSquare → Agreement
agreement_under limit Unmeasured = Unmeasurable
agreement_under limit (Measured chi2) =
    let m : Measure = record { chi2 = chi2; limit = limit } in
    cond (le chi2 limit) (Inside m) (Outside m)

unfoldable pub agreement_of : Claimed → Claimed → Agreement
agreement_of smaller larger =
    let three = three_of smaller larger in
    agreement_under (limit_of three) (chi_square_of three smaller.covariance (difference_of smaller larger))

-- Agreement::agrees; what is unmeasurable counts as disagreeing
unfoldable pub agrees_of : Agreement → Bool
agrees_of (Inside m) = true
agrees_of (Outside m) = false
agrees_of Unmeasurable = false

-- the chi-square of an agreement, a number or none
unfoldable pub chi_square_in : Agreement → ChiSquare
chi_square_in (Inside m) = Measured m.chi2
chi_square_in (Outside m) = Measured m.chi2
chi_square_in Unmeasurable = Unmeasured
