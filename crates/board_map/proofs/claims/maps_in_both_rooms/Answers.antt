use Rattle.board_map.proofs.Rooms.{maps-in-both-rooms}
use Rattle.board_map.proofs.claims.maps_in_both_rooms.Goals as goal

pub returns : goal.returns
returns c = maps-in-both-rooms
