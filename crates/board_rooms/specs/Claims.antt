-- What is claimed of the boards of rooms that take calls and join one another (docs/REFERENCE.md, 'Join'; register_join specs/Claims has what is claimed of their
-- registers). A reader who believes this file, and the definitions it names, needs none of the proofs.
use Rattle.std.specs.Prelude.{ℕ, ◌≤◌, ◌≡◌, true, List, length}
use Rattle.fix_lines.specs.Text.{board_size}
use Rattle.errors.specs.After.{write_text}
use Rattle.desks.specs.declared.Desk.{Desk}
use Rattle.desks.specs.Desks.{number_of}
use Rattle.board.specs.Board.{draw_board}
use Rattle.board.specs.Claims.{board_over}
use Rattle.register.specs.Claims.{SameRemains}
use Rattle.register_join.specs.Claims.{Event, rooms, known, made, got}

-- whatever is passed, if it is enough, each room's board is that over what remains of the calls that it knows of
abbrev pub BoardsOfRooms : Type 0
BoardsOfRooms = (es : List Event) (i : ℕ) (desk : Desk) (out : List ℕ) → board_size ≤ length out → draw_board (number_of desk) (rooms es i) out ≡ write_text (board_over desk (known es i)) out

-- so rooms of two exchanges, of which the same reports and summaries remain, show the same board, whichever engines each has convicted
abbrev pub SameBoards : Type 0
SameBoards = (es fs : List Event) (i j : ℕ) → SameRemains (known es i) (known fs j) → (desk : Desk) (out : List ℕ) → board_size ≤ length out
    → draw_board (number_of desk) (rooms es i) out ≡ draw_board (number_of desk) (rooms fs j) out

-- and rooms that have got from every room, the one board over what remains of all calls that were taken
abbrev pub BoardsConverge : Type 0
BoardsConverge = (es : List Event) (i : ℕ) → ((j : ℕ) → got es i j ≡ true) → (desk : Desk) (out : List ℕ) → board_size ≤ length out → draw_board (number_of desk) (rooms es i) out ≡ write_text (board_over desk (made es)) out
