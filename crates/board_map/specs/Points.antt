-- The points of a map (docs/REFERENCE.md, 'Map'): one for the first ranked fix of each transmission that is shown, where it lies within the degrees.
use Rattle.std.specs.Prelude.{ℕ, ℤ, nat_abs, leb, Bool, ◌&&◌, List, map, filter, flat_map, take, Option}
use Rattle.record.specs.Fields.{time, latitude, longitude, height, weight}
use Rattle.fixes.specs.Fix.{Fix}
use Rattle.fixes.specs.Shown.{Transmission}

pub record Point : Type 0 where
  -- in 1e-7 degree
  pub longitude : ℤ
  pub latitude : ℤ
  -- in millimetres, where there is one
  pub height : Option ℤ
  -- when it was sent, in nanoseconds
  pub time : ℕ
  -- the number of used tags
  pub weight : ℕ
  -- the engines that signed a record of its identity, bit n for engine n
  pub signers : ℕ

-- of a fix
abbrev pub point_of : Fix → Point
point_of f = record {
  longitude = longitude f.record_bytes;
  latitude = latitude f.record_bytes;
  height = height f.record_bytes;
  time = time f.record_bytes;
  weight = weight f.record_bytes;
  signers = f.signers;
}

-- 180 degrees, and 90: exactly these are within
abbrev pub max_longitude : ℕ
max_longitude = 1_800_000_000

abbrev pub max_latitude : ℕ
max_latitude = 900_000_000

abbrev pub lies_within : Point → Bool
lies_within p = leb (nat_abs p.longitude) max_longitude && leb (nat_abs p.latitude) max_latitude

-- the first ranked fix of each transmission
abbrev pub first_ranked : List Transmission → List Fix
first_ranked ts = flat_map (λ (t : Transmission). take 1 t.ranked) ts

-- the points that lie within: for one that lies beyond nothing steps in
unfoldable pub points_of : List Transmission → List Point
points_of ts = filter lies_within (map point_of (first_ranked ts))
