-- The fixes of every board are parted and well-formed, so bursts stay apart on it.
use Rattle.board_transmissions.proofs.Bursts.{bursts-stay-apart}
use Rattle.board.specs.Shows.{fixes_over}
use Rattle.board.specs.Bursts.{BurstsOnBoards}
use Rattle.board.proofs.Shows.{standing-over, what-is-shown}

pub bursts-on-boards : BurstsOnBoards
bursts-on-boards cs f s = bursts-stay-apart (fixes_over cs) (what-is-shown cs f).parted (λ g m. ((standing-over cs f).formed g m).form) s
