-- A horizontal sigma is the root of the mean variance, and 0 where that is a NaN or not above zero (Rust's `max` drops a NaN).
use mathlib.Core.Path.{◌≡◌, refl, ap, ◌∙◌}
use mathlib.Core.Bool.{true, false}
use lib.Ieee.{Float, nan, lt, mul, of_int, round}
use Rattle.floats.specs.Root.{root}
use Rattle.floats.proofs.Ieee754.{root-zero}
use Rattle.geometry.specs.Numbers.{◌⊕◌, ◌⊗◌, whole, from_decimal}
use Rattle.arithmetic.specs.Answers.{sigma_of}
use Rattle.geometry.specs.declared.linalg.Covariance.{Covariance}

pub high-root : (c : Covariance) → lt (whole 0) (from_decimal 5 1 ⊗ (c.xx ⊕ c.yy)) ≡ true → root (from_decimal 5 1 ⊗ (c.xx ⊕ c.yy)) ≡ sigma_of c
unfolding sigma_of
high-root c e = rw e

pub low-root : (c : Covariance) → lt (whole 0) (from_decimal 5 1 ⊗ (c.xx ⊕ c.yy)) ≡ false → root (whole 0) ≡ sigma_of c
unfolding sigma_of
low-root c e = rw e

pub low-sigma : (c : Covariance) → lt (whole 0) (from_decimal 5 1 ⊗ (c.xx ⊕ c.yy)) ≡ false → sigma_of c ≡ whole 0
unfolding sigma_of of_int
low-sigma c e = rw e (root-zero false)

half-nan : lt (whole 0) (from_decimal 5 1 ⊗ nan) ≡ false
unfolding from_decimal round of_int mul lt
half-nan = refl

pub nan-sigma : (c : Covariance) → c.xx ⊕ c.yy ≡ nan → sigma_of c ≡ whole 0
nan-sigma c e = low-sigma c (ap (λ (x : Float). lt (whole 0) (from_decimal 5 1 ⊗ x)) e ∙ half-nan)
