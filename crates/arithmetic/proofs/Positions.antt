-- The limit, and a covariance of zeros.
use mathlib.Core.Path.{refl, ap}
use lib.Ieee.{of_bits, to_bits, round, le, is_nan, of_int}
use Rattle.geometry.specs.Numbers.{from_decimal, not_above}
use Rattle.arithmetic.specs.Agree.{limit_of, agreement_under, agrees_of}
use Rattle.arithmetic.specs.Claims.{Position1, Position2}
use Rattle.geometry.specs.declared.linalg.Covariance.{Covariance}
use Rattle.arithmetic.proofs.Outcomes.{refused-first}

pub position-1 : Position1
unfolding agreement_under agrees_of limit_of from_decimal round of_bits to_bits le
position-1 = (refl, refl, refl, refl)

pub position-2 : Position2
unfolding agrees_of is_nan le of_int
position-2 smaller larger e =
    let u = refused-first smaller larger (ap (λ (c : Covariance). not_above c.xx) e) in
    (u, ap agrees_of u)
