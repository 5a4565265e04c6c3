use Rattle.board_map.proofs.Worked.{maps-worked}
use Rattle.board_map.proofs.claims.maps_worked.Goals as goal

pub returns : goal.returns
returns c = maps-worked
