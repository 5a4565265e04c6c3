use Rattle.text.proofs.Appending.{append-then}
use Rattle.board_map.specs.Text.{coordinates_text}
use Rattle.board_map.proofs.points.push_coordinates.Goals as goal

pub returns : goal.returns
unfolding coordinates_text
returns c = append-then _ _ _ _ _ c.push_longitude.ensures (append-then _ _ _ _ _ c.push_latitude.ensures c.push_height.ensures)
