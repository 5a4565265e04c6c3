use Rattle.std.proofs.Common.{◌≡◌, List, ℕ, ap₂, ◌++◌, subst, OnOk, arith}
use Rattle.rooms_text.specs.Boards.{boards_text}
use Rattle.rooms_text.proofs.Heap.{front-put}
use Rattle.rooms_text.proofs.comparing.push_boards_of.Goals as goal

pub returns : goal.returns
returns c =
    let one = c.write_board-n.ensures in
    let two = c.write_board-k.ensures in
    let first = front-put _ _ _ _ one.text (omega (arith, one.text.next, one.fits, c.board_buffer-first.ensures)) in
    let second = front-put _ _ _ _ two.text (omega (arith, two.text.next, two.fits, c.board_buffer-second.ensures)) in
    let P : List ℕ → Type 0 = λ t. OnOk c.push_boards.result (c.push_boards.new.out.items ≡ c.args.out.now.items ++ t) in
    subst P (ap₂ boards_text first second) c.push_boards.ensures
