use Rattle.register.specs.Memory.{decode}
use Rattle.board_map.specs.Map.{map_of}
use Rattle.board_map.specs.Claims.{points_shown}
use Rattle.board_map.proofs.Readback.{point-reads-back, points-read-back}
use Rattle.board_map.proofs.Held.{all-fit}
use Rattle.board_map.proofs.claims.maps_are_read_back.Goals as goal

pub returns-clause-point : goal.returns-clause-point
returns-clause-point c = point-reads-back

pub returns-clause-points : goal.returns-clause-points
returns-clause-points c = points-read-back

pub returns-clause-maps : goal.returns-clause-maps
unfolding map_of
returns-clause-maps c = λ m b w. points-read-back (points_shown (decode m)) (all-fit m b)
