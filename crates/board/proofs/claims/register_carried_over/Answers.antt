use Rattle.board.proofs.Carried.{register-carried-over}
use Rattle.board.proofs.claims.register_carried_over.Goals as goal

pub returns : goal.returns
returns c = register-carried-over
