-- Three maps, worked out to the letter: one of no points, that of the worked board, and one of a point below zero without a height. What a reader of maps and a writer agree on
-- need not be GeoJSON; these are.
-- Source: docs/REFERENCE.md, 'Map'.
use Rattle.std.specs.Prelude.{ℕ, pos, negsuc, ◌≡◌, List, [], ◌∷◌, ◌++◌, None}
use Rattle.octets.specs.Ascii.{ascii}
use Rattle.board.specs.Worked.{slots}
use Rattle.board_map.specs.Points.{Point}
use Rattle.board_map.specs.Text.{map_text}
use Rattle.board_map.specs.Map.{map_of}

abbrev pub no_points : List ℕ
no_points = ascii "{\"type\":\"FeatureCollection\",\"features\":[]}"

-- the ranked fix of each of the two transmissions of board specs/Worked
abbrev pub two_points : List ℕ
two_points =
    ascii "{\"type\":\"FeatureCollection\",\"features\":["
    ++ ascii "{\"type\":\"Feature\",\"geometry\":{\"type\":\"Point\",\"coordinates\":[0.0000000,0.0000007,1.500]},"
    ++ ascii "\"properties\":{\"time\":\"1000\",\"weight\":1,\"signers\":\"00000020\"}},"
    ++ ascii "{\"type\":\"Feature\",\"geometry\":{\"type\":\"Point\",\"coordinates\":[0.0000000,0.0002700,1.500]},"
    ++ ascii "\"properties\":{\"time\":\"1000\",\"weight\":2,\"signers\":\"00000004\"}}"
    ++ ascii "]}"

-- 5 units west of the meridian, at the north pole
abbrev pub west : Point
west = record { longitude = negsuc 4; latitude = pos 900_000_000; height = None; time = 0; weight = 0; signers = 0 }

abbrev pub one_point : List ℕ
one_point =
    ascii "{\"type\":\"FeatureCollection\",\"features\":["
    ++ ascii "{\"type\":\"Feature\",\"geometry\":{\"type\":\"Point\",\"coordinates\":[-0.0000005,90.0000000]},"
    ++ ascii "\"properties\":{\"time\":\"0\",\"weight\":0,\"signers\":\"00000000\"}}"
    ++ ascii "]}"

pub record MapsWorked : Type 0 where
  pub none : map_of [] [] ≡ no_points
  pub board : map_of [] slots ≡ two_points
  pub no_height : map_text (west ∷ []) ≡ one_point
