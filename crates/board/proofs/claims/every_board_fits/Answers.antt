use Rattle.board.proofs.Fitting.{fits-board, no_refusal}
use Rattle.register.specs.Memory.{decode}
use Rattle.register.proofs.Kept.{decode-valid}
use Rattle.register.proofs.Opened.{opened}
use Rattle.board.proofs.claims.every_board_fits.Goals as goal

pub returns-clause-fits : goal.returns-clause-fits
returns-clause-fits c = fits-board

pub returns-clause-no_refusal : goal.returns-clause-no_refusal
returns-clause-no_refusal c = λ desk m b w. no_refusal (decode m) (decode-valid m (opened m w) b) desk
