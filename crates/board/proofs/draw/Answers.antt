use Rattle.std.proofs.Common.{le_trans, le-ltb}
use Rattle.errors.proofs.Writing.{put_written}
use Rattle.board.proofs.draw.Goals as goal

pub returns-clause-board : goal.returns-clause-board
returns-clause-board c =
    let s = c.if-out-lt-BOARD_SIZE.false in
    rw (le-ltb _ _ s) (put_written _ _ _ _ c.write.ensures.board (le_trans c.write.ensures.fits s))
