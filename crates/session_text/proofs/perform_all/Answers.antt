use Rattle.std.proofs.Common.{ℕ, List, ap, ◌∙◌, arith}
use Rattle.octets.proofs.Puts.{put-put, put_as, put-length}
use Rattle.register.specs.Register.{Register}
use Rattle.register.specs.Memory.{decode, fresh}
use Rattle.register.specs.Calls.{runs}
use Rattle.register.proofs.Further.{runs-formed}
use Rattle.board.specs.Full.{board_in}
use Rattle.session_lines.specs.Session.{at_start, calls_from}
use Rattle.session_text.specs.Output.{printed, answers_then_board}
use Rattle.session_text.proofs.Ending.{put-behind}
use Rattle.session_text.proofs.perform_all.Goals as goal

pub of-requires : goal.of-requires
of-requires c = rw c.write_answers-end.ensures.left (runs-formed (calls_from (at_start c.args.input.now)))

pub returns-clause-text : goal.returns-clause-text
unfolding answers_then_board
returns-clause-text c =
    let first = c.write_answers-end.ensures in
    let board = c.write_board.ensures in
    let drawing : List ℕ = printed (board_in (decode (runs fresh (calls_from (at_start c.args.input.now))))) in
    let later = put_as (ap (λ (s : Register). printed (board_in s)) (c.of.ensures ∙ ap decode first.left)) board.text in
    let same = put-length first.text in
    put-put first.text (put-behind _ _ drawing _ _ (omega (arith, later.next, board.bound, first.bound, same, c.requires)) later)
