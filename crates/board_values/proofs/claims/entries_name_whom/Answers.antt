use Rattle.register.specs.Memory.{decode}
use Rattle.register.proofs.Opened.{opened}
use Rattle.register.proofs.Kept.{decode-valid}
use Rattle.board_values.proofs.Whom.{names-whom}
use Rattle.board_values.proofs.claims.entries_name_whom.Goals as goal

pub returns : goal.returns
returns c = λ m b w. names-whom (decode m) (decode-valid m (opened m w) b)
