-- No claim rests on these definitions: they say how agreement is worked out in two stages, what depends on one fix alone, and the comparison of two placed
-- fixes by the factor of the smaller one's covariance. `staged`, in proofs/Staged.antt, says that they are `agreement_of` together.
use Rattle.std.specs.Prelude.{Bool, true, false, cond, ◌&&◌, Float, Option, Some, None, is_some}
use Rattle.geometry.specs.Geodesy.{to_ecef, enu_basis, sub_of, dot_of}
use Rattle.geometry.specs.Factors.{flat_length, full_length}
use Rattle.arithmetic.specs.Agree.{geodetic_of, finitely, agreement_under, limit_of}
use Rattle.geometry.specs.declared.geodesy.Vec3.{Vec3}
use Rattle.geometry.specs.declared.geodesy.Basis.{Basis}
use Rattle.geometry.specs.declared.linalg.Factor.{Factor}
use Rattle.geometry.specs.declared.linalg.Factor.TheVariants.{Flat, Full}
use Rattle.arithmetic.specs.declared.standing.Placed.{Placed}
use Rattle.arithmetic.specs.declared.standing.Claimed.{Claimed}
use Rattle.arithmetic.specs.declared.standing.Agreement.{Agreement}
use Rattle.arithmetic.specs.declared.standing.Agreement.TheVariants.{Unmeasurable}

-- the outcome of a sum, with both heights and without
abbrev pub with_limit : Bool → Float → Agreement
with_limit three chi2 = agreement_under (limit_of three) (finitely chi2)

-- by the factor for three rows where both fixes have a height, else by that for two; nothing is measured without it
unfoldable pub measured_of : Bool → Option Factor → Vec3 → Agreement
measured_of three None v = Unmeasurable
measured_of three (Some (Flat r)) v = cond three Unmeasurable (with_limit false (flat_length r v))
measured_of three (Some (Full r t)) v = cond three (with_limit true (full_length r t v)) (with_limit false (flat_length r v))

-- a difference in east, north and up
unfoldable pub enu_of : Basis → Vec3 → Vec3
enu_of basis d = record { x = dot_of basis.east d; y = dot_of basis.north d; z = dot_of basis.up d }

-- the first stage, as a struct
unfoldable pub placed_of : Claimed → Placed
placed_of claim =
    let position = geodetic_of claim in
    record {
      ecef = to_ecef position;
      basis = enu_basis position;
      has_height = is_some claim.height;
    }

-- the second stage: the smaller fix, its factor, the larger one's position and whether that has a height
unfoldable pub judged_of : Placed → Option Factor → Vec3 → Bool → Agreement
judged_of from factor to high =
    measured_of (from.has_height && high) factor (enu_of from.basis (sub_of to from.ecef))

-- the second stage on two placed fixes
abbrev pub compared_of : Placed → Option Factor → Placed → Agreement
compared_of smaller factor larger = judged_of smaller factor larger.ecef larger.has_height
