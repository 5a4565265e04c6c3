use Rattle.rooms_text.proofs.Alike.{alike}
use Rattle.rooms_text.proofs.claims.equal_registers_have_equal_boards.Goals as goal

pub returns : goal.returns
returns c = alike
