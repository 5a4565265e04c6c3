use Rattle.board.proofs.Crew as P
use Rattle.board.proofs.claims.crews.Goals as goal

pub returns-clause-follows : goal.returns-clause-follows
returns-clause-follows c = P.crew-follows

pub returns-clause-same : goal.returns-clause-same
returns-clause-same c = P.same-to-crews

pub returns-clause-refused_in_order : goal.returns-clause-refused_in_order
returns-clause-refused_in_order c = P.board-in-order
