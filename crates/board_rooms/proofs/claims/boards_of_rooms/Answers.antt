use Rattle.board_rooms.proofs.Exchanged.{boards-of-rooms, same-boards, boards-converge}
use Rattle.board_rooms.proofs.claims.boards_of_rooms.Goals as goal

pub returns-clause-rooms : goal.returns-clause-rooms
returns-clause-rooms c = boards-of-rooms

pub returns-clause-same : goal.returns-clause-same
returns-clause-same c = same-boards

pub returns-clause-converge : goal.returns-clause-converge
returns-clause-converge c = boards-converge
