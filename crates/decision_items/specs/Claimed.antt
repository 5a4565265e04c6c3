-- What a record claims (docs/REFERENCE.md, 'Agreement and decision'), and the order by a number that `rank` goes by.
use Rattle.std.specs.Prelude.{Bool, true, false, cond, List, ℕ, ltb, Float}
use Rattle.std.specs.Float.{binary64}
use Rattle.std.specs.Float.Ieee.{of_bits}
use Rattle.record.specs.Fields as F
use Rattle.arithmetic.specs.declared.standing.Claimed.{Claimed}
use Rattle.geometry.specs.declared.linalg.Covariance.{Covariance}

abbrev pub covariance_value : List ℕ → ℕ → Float
covariance_value r k = of_bits binary64 (F.covariance_bits r k)

abbrev pub covariance_of : List ℕ → Covariance
covariance_of r =
    record { xx = covariance_value r 0; xy = covariance_value r 1; xz = covariance_value r 2; yy = covariance_value r 3; yz = covariance_value r 4; zz = covariance_value r 5 }

unfoldable pub claim_of : List ℕ → Claimed
claim_of r =
    record {
      lat = F.latitude r;
      lon = F.longitude r;
      height = F.height r;
      covariance = covariance_of r;
    }

-- the more of a number first, then as another test says
abbrev pub more_first : ℕ → ℕ → Bool → Bool
more_first a b rest = cond (ltb b a) true (cond (ltb a b) false rest)
