-- The text of a map, a FeatureCollection of GeoJSON (RFC 7946) in one line without blanks or a line feed (docs/REFERENCE.md, 'Map').
use Rattle.std.specs.Prelude.{ℕ, ℤ, List, [], ◌∷◌, ◌++◌, flat_map, Option, Some, None}
use Rattle.octets.specs.Ascii.{ascii}
use Rattle.text.specs.Numbers.{decimal, hex}
use Rattle.text.specs.Decimals.{signed_with_decimals}
use Rattle.board_map.specs.Points.{Point}

-- degrees have seven decimals, so many has the unit of a record's latitude and longitude; metres three
abbrev pub degrees : ℤ → List ℕ
degrees v = signed_with_decimals 7 v

abbrev pub metres : ℤ → List ℕ
metres h = signed_with_decimals 3 h

-- a third coordinate, where there is a height
unfoldable pub height_text : Option ℤ → List ℕ
height_text None = []
height_text (Some h) = ascii "," ++ metres h

-- [10.0000000,50.0000000,1.500], without the brackets: longitude first
unfoldable pub coordinates_text : ℤ → ℤ → Option ℤ → List ℕ
coordinates_text longitude latitude height = degrees longitude ++ ((ascii "," ++ degrees latitude) ++ height_text height)

-- "time":"1000","weight":2,"signers":"00000002"
unfoldable pub properties_text : ℕ → ℕ → ℕ → List ℕ
properties_text time weight signers =
    (ascii "\"time\":\"" ++ decimal time)
    ++ ((ascii "\",\"weight\":" ++ decimal weight)
    ++ ((ascii ",\"signers\":\"" ++ hex 8 signers)
    ++ ascii "\""))

unfoldable pub point_text : Point → List ℕ
point_text p =
    ascii "{\"type\":\"Feature\",\"geometry\":{\"type\":\"Point\",\"coordinates\":["
    ++ (coordinates_text p.longitude p.latitude p.height
    ++ (ascii "]},\"properties\":{"
    ++ (properties_text p.time p.weight p.signers
    ++ ascii "}}")))

-- with a comma between two
unfoldable pub points_text : List Point → List ℕ
points_text [] = []
points_text (p ∷ ps) = point_text p ++ flat_map (λ (q : Point). ascii "," ++ point_text q) ps

unfoldable pub map_text : List Point → List ℕ
map_text ps = ascii "{\"type\":\"FeatureCollection\",\"features\":[" ++ (points_text ps ++ ascii "]}")
