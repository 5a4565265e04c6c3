-- Positions on the WGS 84 ellipsoid: from latitude, longitude and height to Cartesian coordinates, and the directions east, north and up at a place
-- (docs/REFERENCE.md, 'Chi-square', steps 1 and 2; the Rust's geo.rs makes the same operations in the same order). A latitude and a longitude stand
-- as their sine and cosine, since the series of Angles takes the angle itself and no radians.
use Rattle.std.specs.Prelude.{Float}
use Rattle.std.specs.Float.Ieee.{neg}
use Rattle.floats.specs.Root.{root}
use Rattle.geometry.specs.Numbers.{◌⊕◌, ◌⊖◌, ◌⊗◌, ◌⊘◌, whole, from_decimal}
use Rattle.geometry.specs.declared.geodesy.Vec3.{Vec3}
use Rattle.geometry.specs.declared.geodesy.Basis.{Basis}
use Rattle.geometry.specs.declared.geodesy.Geodetic.{Geodetic}

-- A: the semi-major axis, 6,378,137 metres
abbrev pub semi_major : Float
semi_major = whole 6_378_137

-- F = 1.0 / 298.257_223_563: the flattening
unfoldable pub flattening : Float
flattening = whole 1 ⊘ from_decimal 298_257_223_563 9

-- E2 = F * (2.0 - F): the first eccentricity squared
unfoldable pub eccentricity2 : Float
eccentricity2 = flattening ⊗ (whole 2 ⊖ flattening)

unfoldable pub to_ecef : Geodetic → Vec3
to_ecef position =
    let n = semi_major ⊘ root (whole 1 ⊖ eccentricity2 ⊗ position.lat.sin ⊗ position.lat.sin) in
    record {
      x = (n ⊕ position.height_m) ⊗ position.lat.cos ⊗ position.lon.cos;
      y = (n ⊕ position.height_m) ⊗ position.lat.cos ⊗ position.lon.sin;
      z = (n ⊗ (whole 1 ⊖ eccentricity2) ⊕ position.height_m) ⊗ position.lat.sin;
    }

-- the unit vectors east, north and up
unfoldable pub enu_basis : Geodetic → Basis
enu_basis position =
    record {
      east = record { x = neg position.lon.sin; y = position.lon.cos; z = whole 0 };
      north =
          record {
            x = neg position.lat.sin ⊗ position.lon.cos;
            y = neg position.lat.sin ⊗ position.lon.sin;
            z = position.lat.cos;
          };
      up =
          record {
            x = position.lat.cos ⊗ position.lon.cos;
            y = position.lat.cos ⊗ position.lon.sin;
            z = position.lat.sin;
          };
    }

-- linalg::sub and linalg::dot
unfoldable pub sub_of : Vec3 → Vec3 → Vec3
sub_of a b = record { x = a.x ⊖ b.x; y = a.y ⊖ b.y; z = a.z ⊖ b.z }

unfoldable pub dot_of : Vec3 → Vec3 → Float
dot_of a b = a.x ⊗ b.x ⊕ a.y ⊗ b.y ⊕ a.z ⊗ b.z
