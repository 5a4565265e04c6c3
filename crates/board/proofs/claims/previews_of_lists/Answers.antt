use Rattle.board.proofs.Previewed as P
use Rattle.board.proofs.claims.previews_of_lists.Goals as goal

pub returns-clause-at_the_end : goal.returns-clause-at_the_end
returns-clause-at_the_end c = P.conviction-at-the-end

pub returns-clause-in_both_rooms : goal.returns-clause-in_both_rooms
returns-clause-in_both_rooms c = P.previews-in-both-rooms
