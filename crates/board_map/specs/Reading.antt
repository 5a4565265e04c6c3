-- How a map is read (docs/REFERENCE.md, 'Map'): from its text alone, key by key, each number as the whole number that its digits stand for. Nothing here says how a map is
-- written.
use Rattle.std.specs.Prelude.{ℕ, zero, suc, ℤ, cond, eqb, not, List, [], ◌∷◌, length, Option, Some, None, option_map}
use Rattle.octets.specs.Ascii.{ascii}
use Rattle.text.specs.Reading.{Read, ◌>>=◌, behind, number_at, hex_at, signed_at}
use Rattle.board_map.specs.Points.{Point}

-- a comma and a height in metres with three decimals, or none
unfoldable pub height_at : List ℕ → Read (Option ℤ)
height_at [] = Some (None, [])
height_at (c ∷ t) = cond (eqb c 44) (option_map (λ (h : ℤ × List ℕ). (Some h.0, h.1)) (signed_at 3 t)) (Some (None, c ∷ t))

unfoldable pub point_at : List ℕ → Read Point
point_at t = do
  a ← behind (ascii "{\"type\":\"Feature\",\"geometry\":{\"type\":\"Point\",\"coordinates\":[") t
  longitude ← signed_at 7 a
  b ← behind (ascii ",") longitude.1
  latitude ← signed_at 7 b
  height ← height_at latitude.1
  d ← behind (ascii "]},\"properties\":{\"time\":\"") height.1
  time ← number_at d
  e ← behind (ascii "\",\"weight\":") time.1
  weight ← number_at e
  f ← behind (ascii ",\"signers\":\"") weight.1
  signers ← hex_at 8 f
  g ← behind (ascii "\"}}") signers.1
  Some (
    record { longitude = longitude.0; latitude = latitude.0; height = height.0; time = time.0; weight = weight.0; signers = signers.0 },
    g,
  )

-- further points, each behind a comma, and at most so many
unfoldable pub more_at : ℕ → List ℕ → Read (List Point)
more_at zero t = Some ([], t)
more_at (suc most) [] = Some ([], [])
more_at (suc most) (c ∷ t) = cond (not (eqb c 44)) (Some ([], c ∷ t)) do
  p ← point_at t
  ps ← more_at most p.1
  Some (p.0 ∷ ps.0, ps.1)

-- points up to a bracket; there are no more of them than bytes
unfoldable pub points_at : List ℕ → Read (List Point)
points_at [] = Some ([], [])
points_at (c ∷ t) = cond (eqb c 93) (Some ([], c ∷ t)) do
  p ← point_at (c ∷ t)
  ps ← more_at (length t) p.1
  Some (p.0 ∷ ps.0, ps.1)

-- the points of a whole map
unfoldable pub read_map : List ℕ → Option (List Point)
read_map t = do
  a ← behind (ascii "{\"type\":\"FeatureCollection\",\"features\":[") t
  ps ← points_at a
  rest ← behind (ascii "]}") ps.1
  cond (eqb (length rest) 0) (Some ps.0) None
