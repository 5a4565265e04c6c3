use Rattle.std.proofs.Common.{arith}
use Rattle.octets.specs.Ascii.{ascii}
use Rattle.octets.specs.Put.{Put}
use Rattle.octets.proofs.Puts.{put-put, put_as}
use Rattle.board.specs.Full.{board_in}
use Rattle.session_text.proofs.Ending.{printed-none, printed-some}
use Rattle.session_text.proofs.write_board.Goals as goal

pub returns-in-0-clause-text : goal.returns-in-0-clause-text
unfolding ascii
returns-in-0-clause-text c =
    let nothing : Put c.args.out.now 0 (board_in c.args.register.now) 0 c.write.new.out = rw c.in-0.is at c.write.ensures.board in
    put_as (printed-none (board_in c.args.register.now) (omega (arith, nothing.next))) (put-put nothing c.put_bytes.ensures)

pub returns-in_default-clause-text : goal.returns-in_default-clause-text
returns-in_default-clause-text c =
    let drawn = c.write.ensures.board in
    put_as (printed-some (board_in c.args.register.now) (omega (arith, drawn.next))) drawn
