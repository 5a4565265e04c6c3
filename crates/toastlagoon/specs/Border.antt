-- What a fix claims and what a record says, of their parts one by one, and what is handed out of how two fixes stand.
-- Source: docs/REFERENCE.md, 'Operations' and 'Answers'.
use Rattle.std.specs.Prelude.{ℕ, List, Bool, ℤ, Float, Option, Some, None, if◌then◌else◌}
use Rattle.geometry.specs.declared.linalg.Covariance.{Covariance}
use Rattle.arithmetic.specs.declared.standing.Claimed.{Claimed}
use Rattle.arithmetic.specs.declared.standing.Measure.{Measure}
use Rattle.arithmetic.specs.declared.standing.Agreement.{Agreement}
use Rattle.arithmetic.specs.Answers.{agreement_number, measure_in}
use Rattle.record.specs.Value.{Value}
use Rattle.errors.specs.After.{After, after}

abbrev pub covariance_from : Float → Float → Float → Float → Float → Float → Covariance
covariance_from xx xy xz yy yz zz = record { xx = xx; xy = xy; xz = xz; yy = yy; yz = yz; zz = zz }

abbrev pub claim_from : ℤ → ℤ → Bool → ℤ → Float → Float → Float → Float → Float → Float → Claimed
claim_from lat lon high height xx xy xz yy yz zz =
    record { lat = lat; lon = lon; height = if high then Some height else None; covariance = covariance_from xx xy xz yy yz zz }

abbrev pub value_from : ℕ → ℤ → ℤ → Bool → ℤ → List ℕ → List ℕ → ℕ → List ℕ → ℕ → List ℕ → Value
value_from time lat lon high height message tags used models spec covariance =
    record {
      time = time;
      latitude = lat;
      longitude = lon;
      height = if high then Some height else None;
      message = message;
      tags = tags;
      used = used;
      models = models;
      spec = spec;
      covariance = covariance;
    }

-- Where nothing was measured there is no number. What the two lent numbers hold then: what was measured, or what was found there.
unfoldable pub measure_or : Measure → Option Measure → Measure
measure_or found None = found
measure_or found (Some m) = m

-- what is answered of an agreement, and what the two lent numbers hold then
unfoldable pub agreement_out : Agreement → Measure → After Measure
agreement_out g found = after (agreement_number g) (measure_or found (measure_in g))
