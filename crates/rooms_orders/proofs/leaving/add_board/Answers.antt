use Rattle.std.proofs.Common.{◌∙◌, ap, List, ℕ, map, arith}
use Rattle.register.specs.Memory.{decode}
use Rattle.register.proofs.Further.{runs-formed}
use Rattle.board.specs.Full.{board_in}
use Rattle.session_lines.specs.Gives.{call_of}
use Rattle.rooms_text.proofs.Heap.{front-put}
use Rattle.rooms_orders.specs.Tried.{texts_of, with_text}
use Rattle.rooms_orders.proofs.leaving.add_board.Goals as goal

pub of-requires : goal.of-requires
of-requires c = rw c.perform_all-none_full.ensures.left (runs-formed (map call_of c.args.calls.now))

pub returns-clause-added : goal.returns-clause-added
returns-clause-added c =
    let w = c.write-n.ensures in
    let written = front-put _ _ _ _ w.board (omega (arith, w.board.next, w.fits, c.text_buffer-out.ensures)) in
    let shown = ap board_in (c.of.ensures ∙ ap decode c.perform_all-none_full.ensures.left) in
    c.in_ok-add.ensures ∙ ap (λ (t : List ℕ). with_text t (texts_of c.args.boards.now)) (written ∙ shown)
