-- Three maps, by computation.
use Rattle.std.proofs.Common.{refl}
use mathlib.Core.List.{flat_map}
use Rattle.octets.specs.Ascii.{ascii}
use Rattle.text.specs.Numbers.{digits, hex}
use Rattle.text.specs.Decimals.{lowest_digits, with_decimals, signed_with_decimals}
use Rattle.board.proofs.Worked.{of-boards}
use Rattle.board_map.specs.Points.{points_of}
use Rattle.board_map.specs.Text.{height_text, coordinates_text, properties_text, point_text, points_text, map_text}
use Rattle.board_map.specs.Map.{map_of}
use Rattle.board_map.specs.Worked.{MapsWorked}

pub maps-worked : MapsWorked
unfolding of-boards map_of points_of map_text points_text point_text coordinates_text properties_text height_text signed_with_decimals with_decimals lowest_digits digits hex ascii flat_map
maps-worked = record { none = refl; board = refl; no_height = refl }
