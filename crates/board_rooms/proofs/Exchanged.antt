-- The boards of rooms that take calls and join one another.
use Rattle.std.proofs.Common.{ℕ, ◌≤◌, ◌≡◌, sym, ap, ap₂, ◌∙◌, List, length, le-ltb}
use Rattle.fix_lines.specs.Text.{board_size}
use Rattle.errors.specs.After.{write_text}
use Rattle.desks.specs.declared.Desk.{Desk}
use Rattle.desks.specs.Desks.{number_of}
use Rattle.register.specs.Memory.{decode}
use Rattle.register.specs.Calls.{Call}
use Rattle.register.proofs.Valid.{decode-encode}
use Rattle.register.specs.Claims.{SameRemains}
use Rattle.register_join.specs.Claims.{rooms, known, made}
use Rattle.register_join.proofs.JoinLists.{of-sum}
use Rattle.register_join.proofs.InOrder.{has-in-order}
use Rattle.register_join.proofs.Alike.{summaries-alike, records-alike}
use Rattle.register_join.proofs.Exchanging.{Stands, stands, stands-made, stands-holds}
use Rattle.board.specs.Board.{board_for, board_seen, draw_for, draw_board}
use Rattle.board.specs.Claims.{board_over}
use Rattle.board.proofs.Desks.{draw-by}
use Rattle.board_rooms.specs.Claims.{BoardsOfRooms, SameBoards, BoardsConverge}

-- the board of bytes that are a register of what a list has
module _ (cs : List Call) (m : List ℕ) (a : Stands cs m) (desk : Desk) where
  over : board_seen desk (decode m) ≡ board_over desk cs
  over =
      let s = a.register in
      let h = has-in-order cs s (of-sum cs s a.sum) in
      ap (board_seen desk) (ap decode a.bytes ∙ decode-encode s a.sum.valid) ∙ ap₂ (board_for desk) h.0 h.1

  drawn : (out : List ℕ) → board_size ≤ length out → draw_board (number_of desk) m out ≡ write_text (board_over desk cs) out
  unfolding draw_for
  drawn out h = draw-by desk m out ∙ rw ((stands-holds cs m a).formed, le-ltb _ _ h) (ap (λ (t : List ℕ). write_text t out) over)

-- of bytes of which the same remains
module _ (cs ds : List Call) (m n : List ℕ) (a : Stands cs m) (b : Stands ds n) (q : SameRemains cs ds) (desk : Desk) where
  seen-alike : board_seen desk (decode m) ≡ board_seen desk (decode n)
  seen-alike =
      ap (board_seen desk) (ap decode a.bytes ∙ decode-encode a.register a.sum.valid)
      ∙ ap₂ (board_for desk) (summaries-alike cs ds m n a b q) (records-alike cs ds m n a b q)
      ∙ sym (ap (board_seen desk) (ap decode b.bytes ∙ decode-encode b.register b.sum.valid))

  drawn-alike : (out : List ℕ) → board_size ≤ length out → draw_board (number_of desk) m out ≡ draw_board (number_of desk) n out
  unfolding draw_for
  drawn-alike out h =
      draw-by desk m out
      ∙ rw ((stands-holds cs m a).formed, (stands-holds ds n b).formed, le-ltb _ _ h) (ap (λ (t : List ℕ). write_text t out) seen-alike)
      ∙ sym (draw-by desk n out)

pub boards-of-rooms : BoardsOfRooms
boards-of-rooms es i desk out h = drawn (known es i) (rooms es i) (stands es 0 i) desk out h

pub same-boards : SameBoards
same-boards es fs i j q desk out h = drawn-alike (known es i) (known fs j) (rooms es i) (rooms fs j) (stands es 0 i) (stands fs 0 j) q desk out h

pub boards-converge : BoardsConverge
boards-converge es i g desk out h = drawn (made es) (rooms es i) (stands-made es i g) desk out h
