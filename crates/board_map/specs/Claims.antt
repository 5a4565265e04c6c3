-- What is claimed of maps: how long they are, that they are read back, which transmissions have a point, and that two rooms get the same. The contracts of src/claims.rt
-- name it.
-- Source: docs/REFERENCE.md, 'Map'.
use Rattle.std.specs.Prelude.{ℕ, ◌^◌, ◌≤◌, ◌<◌, ◌≡◌, ◌⊎◌, true, nat_abs, [], ◌∷◌, ◌++◌, length, Some}
use mathlib.Core.List.{List, Memᴰ}
use Rattle.octets.specs.Bytes.{Bytes}
use Rattle.record.specs.Fields.{latitude, longitude}
use Rattle.errors.specs.After.{write_text}
use Rattle.errors.specs.Errors.{greatest_refusal}
use Rattle.fixes.specs.Fix.{Fix}
use Rattle.fixes.specs.Shown.{Transmission}
use Rattle.board_picture.specs.Picture.{picture, latest_of}
use Rattle.register.specs.Register.{Register}
use Rattle.register.specs.Memory.{well_formed, decode, fresh}
use Rattle.register.specs.Calls.{Call, runs, none_full, remaining}
use Rattle.register.specs.Remains.{summaries_held, records_held}
use Rattle.register.specs.Claims.{SameRemains}
use Rattle.board_map.specs.Points.{Point, point_of, max_longitude, max_latitude, points_of}
use Rattle.board_map.specs.Text.{point_text, map_text}
use Rattle.board_map.specs.Reading.{point_at, read_map}
use Rattle.board_map.specs.Map.{map_size, map_of, map_in, draw_map}

-- ---- what is written is read back

-- numbers as wide as those of a record and its signers
pub record Fits (p : Point) : Type 0 where
  pub longitude : nat_abs p.longitude ≤ 2 ^ 31
  pub latitude : nat_abs p.latitude ≤ 2 ^ 31
  pub height : (h : _) → p.height ≡ Some h → nat_abs h ≤ 2 ^ 31
  pub time : p.time < 2 ^ 64
  pub weight : p.weight < 100
  pub signers : p.signers < 2 ^ 32

abbrev pub AllFit : List Point → Type 0
AllFit ps = (p : Point) → Memᴰ p ps → Fits p

-- a point, whatever stands behind it
abbrev pub PointReadsBack : Type 0
PointReadsBack = (p : Point) → Fits p → (t : List ℕ) → point_at (point_text p ++ t) ≡ Some (p, t)

-- any points: the map of them says just these, and no others
abbrev pub PointsReadBack : Type 0
PointsReadBack = (ps : List Point) → AllFit ps → read_map (map_text ps) ≡ Some ps

-- the points of a register's map
abbrev pub points_shown : Register → List Point
points_shown s = points_of (latest_of (picture s.summaries s.records))

-- every map: longitude, latitude and height or none as whole numbers, time, weight and signers
abbrev pub MapsReadBack : Type 0
MapsReadBack = (m : List ℕ) → Bytes m → well_formed m ≡ true → read_map (map_in (decode m)) ≡ Some (points_shown (decode m))

-- ---- how long a map is

abbrev pub least_map : ℕ
least_map = 42

abbrev pub greatest_map : ℕ
greatest_map = 1473

pub record MapLength : Type 0 where
  pub least : (m : List ℕ) → least_map ≤ length (map_in (decode m))
  pub greatest : (m : List ℕ) → Bytes m → well_formed m ≡ true → length (map_in (decode m)) ≤ greatest_map
  pub no_refusal : (m : List ℕ) → greatest_refusal < length (map_in (decode m))
  -- every map fits, whatever the numbers in it
  pub fits : (s : Register) → length (map_in s) ≤ map_size

-- ---- which transmissions have a point

-- those within 180 degrees of longitude and 90 of latitude, either sign; exactly these are within
abbrev pub Within : Fix → Type 0
Within f = (nat_abs (longitude f.record_bytes) ≤ max_longitude) × (nat_abs (latitude f.record_bytes) ≤ max_latitude)

abbrev pub Beyond : Fix → Type 0
Beyond f = (max_longitude < nat_abs (longitude f.record_bytes)) ⊎ (max_latitude < nat_abs (latitude f.record_bytes))

pub record PointsExactly : Type 0 where
  -- each transmission has its points, whatever others there are, in their order
  pub one_by_one : (ts us : List Transmission) → points_of (ts ++ us) ≡ points_of ts ++ points_of us
  pub none : points_of [] ≡ []
  -- one point where its first ranked fix lies within, and none where that lies beyond: no other of its fixes steps in
  pub within : (t : Transmission) (f : Fix) (fs : List Fix) → t.ranked ≡ f ∷ fs → Within f → points_of (t ∷ []) ≡ point_of f ∷ []
  pub beyond : (t : Transmission) (f : Fix) (fs : List Fix) → t.ranked ≡ f ∷ fs → Beyond f → points_of (t ∷ []) ≡ []
  -- each transmission that a register shows has a first ranked fix
  pub some_ranked : (m : List ℕ) → Bytes m → well_formed m ≡ true
      → (t : Transmission) → Memᴰ t (latest_of (picture (decode m).summaries (decode m).records)) → 0 < length t.ranked

-- ---- two rooms

-- the map over what remains
abbrev pub map_over_remains : List Call → List ℕ
map_over_remains cs = map_of (summaries_held (remaining cs)) (records_held (remaining cs))

-- two rooms get the same map, whatever each lends, if it is enough: that over what remains
pub record SameMaps (north south : List Call) : Type 0 where
  pub drawn_north : (out : List ℕ) → map_size ≤ length out → draw_map (runs fresh north) out ≡ write_text (map_over_remains north) out
  pub drawn_south : (out : List ℕ) → map_size ≤ length out → draw_map (runs fresh south) out ≡ write_text (map_over_remains north) out

-- where the same remains of their lists, of which no call is refused as full
abbrev pub MapsInBothRooms : Type 0
MapsInBothRooms = (north south : List Call) → none_full fresh north ≡ true → none_full fresh south ≡ true → SameRemains north south → SameMaps north south
