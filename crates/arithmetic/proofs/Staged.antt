-- The two stages together are the definition: the same operations on the same values.
use mathlib.Core.Path.{◌≡◌, refl, sym, ap, ◌∙◌}
use mathlib.Core.Bool.{Bool, true, false}
use mathlib.Core.List.{List, [], ◌∷◌}
use Rattle.std.specs.Prelude.{Option, Some, None, is_some}
use lib.Ieee.{Float}
use Rattle.floats.specs.Root.{root}
use Rattle.geometry.specs.Numbers.{◌⊖◌, ◌⊗◌, ◌⊘◌, not_above}
use Rattle.geometry.specs.Geodesy.{to_ecef}
use Rattle.geometry.specs.Linalg.{minus_each, rows_below, columns, cholesky_of, forwards, forward, backwards, backward, solve_of, sum_to}
use Rattle.arithmetic.specs.Agree.{limit_of, geodetic_of, matrix_of, sum_under, length_under, chi_square_of, difference_of, agreement_under, agreement_of}
use Rattle.geometry.specs.Factors.{factor_of, factor_of_two, factor_of_three, flat_length, full_length}
use Rattle.arithmetic.specs.Stages.{measured_of, enu_of, placed_of, judged_of, compared_of}
use Rattle.geometry.specs.declared.geodesy.Vec3.{Vec3}
use Rattle.geometry.specs.declared.linalg.Factor.{Factor}
use Rattle.geometry.specs.declared.linalg.Factor.TheVariants.{Flat, Full}
use Rattle.geometry.specs.declared.linalg.Covariance.{Covariance}
use Rattle.arithmetic.specs.declared.standing.Claimed.{Claimed}
use Rattle.arithmetic.proofs.Comparing.{by}

-- ---- the linear algebra at two rows and at three

module _ (c : Covariance) where
  abbrev l10 : Float
  l10 = c.xy ⊘ root c.xx

  abbrev l20 : Float
  l20 = c.xz ⊘ root c.xx

  abbrev d1 : Float
  d1 = c.yy ⊖ l10 ⊗ l10

  abbrev l21 : Float
  l21 = (c.yz ⊖ l20 ⊗ l10) ⊘ root d1

  abbrev d2 : Float
  d2 = c.zz ⊖ l20 ⊗ l20 ⊖ l21 ⊗ l21

  cases : (A : Type 0) → (not_above c.xx ≡ true → A) → (not_above c.xx ≡ false → not_above d1 ≡ true → A)
      → (not_above c.xx ≡ false → not_above d1 ≡ false → not_above d2 ≡ true → A)
      → (not_above c.xx ≡ false → not_above d1 ≡ false → not_above d2 ≡ false → A) → A
  cases A f g h k = by (not_above c.xx) f (λ x. by (not_above d1) (g x) (λ y. by (not_above d2) (h x y) (k x y)))

  -- the case of a factor says what Cholesky gives for two rows, and for three
  pub two_is : factor_of_two (factor_of c) ≡ cholesky_of 2 (matrix_of false c)
  unfolding matrix_of cholesky_of columns rows_below minus_each factor_of
  two_is = cases _ (λ x. rw x) (λ x y. rw (x, y)) (λ x y z. rw (x, y, z)) (λ x y z. rw (x, y, z))

  pub three-is : factor_of_three (factor_of c) ≡ cholesky_of 3 (matrix_of true c)
  unfolding matrix_of cholesky_of columns rows_below minus_each factor_of
  three-is = cases _ (λ x. rw x) (λ x y. rw (x, y)) (λ x y z. rw (x, y, z)) (λ x y z. rw (x, y, z))

-- a difference as a list
abbrev numbers : Vec3 → List Float
numbers v = v.x ∷ v.y ∷ v.z ∷ []

-- what is measured by it is what is measured by the factor that it has
two-under : (f : Option Factor) (v : Vec3) → agreement_under (limit_of false) (length_under 2 (numbers v) (factor_of_two f)) ≡ measured_of false f v
unfolding agreement_under length_under sum_under solve_of forward forwards backward backwards minus_each sum_to measured_of flat_length
two-under None v = refl
two-under (Some (Flat r)) v = refl
two-under (Some (Full r t)) v = refl

three-under : (f : Option Factor) (v : Vec3) → agreement_under (limit_of true) (length_under 3 (numbers v) (factor_of_three f)) ≡ measured_of true f v
unfolding agreement_under length_under sum_under solve_of forward forwards backward backwards minus_each sum_to measured_of full_length
three-under None v = refl
three-under (Some (Flat r)) v = refl
three-under (Some (Full r t)) v = refl

pub measured-is : (three : Bool) (c : Covariance) (v : Vec3)
    → agreement_under (limit_of three) (chi_square_of three c (numbers v)) ≡ measured_of three (factor_of c) v
unfolding chi_square_of
measured-is true c v = ap (λ (l : Option (List Float)). agreement_under (limit_of true) (length_under 3 (numbers v) l)) (sym (three-is c)) ∙ three-under (factor_of c) v
measured-is false c v = ap (λ (l : Option (List Float)). agreement_under (limit_of false) (length_under 2 (numbers v) l)) (sym (two_is c)) ∙ two-under (factor_of c) v

-- ---- the two stages

pub judged-is : (a b : Claimed) → judged_of (placed_of a) (factor_of a.covariance) (to_ecef (geodetic_of b)) (is_some b.height) ≡ agreement_of a b
unfolding judged_of placed_of enu_of agreement_of difference_of
judged-is a b = rw (← measured-is)

-- a comparison of two placed fixes by the smaller one's factor is the agreement of their claims
pub staged : (smaller larger : Claimed) → compared_of (placed_of smaller) (factor_of smaller.covariance) (placed_of larger) ≡ agreement_of smaller larger
unfolding placed_of
staged smaller larger = judged-is smaller larger
