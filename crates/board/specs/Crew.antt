-- What is claimed of a crew's board: it follows from the full board alone, and is the same for two registers in the texts of whose full boards the same ranked lines
-- stand under the same transmission numbers; and in which order a board is refused. The theorems are in proofs/Crew.
-- Source: docs/REFERENCE.md, 'Desks' and 'Text'.
use Rattle.std.specs.Prelude.{ℕ, ◌≡◌, ◌==◌, Bool, ◌||◌, nat_eq, if◌then◌else◌, cond, not, List, map, ltb, eqb, length}
use Rattle.std.specs.List.{filter, before_first, slice_split, starts_with}
use Rattle.octets.specs.Ascii.{ascii}
use Rattle.fix_lines.specs.Text.{board_size}
use Rattle.fix_lines.specs.CrewFromFull.{crew_part}
use Rattle.errors.specs.After.{after, write_text}
use Rattle.desks.specs.declared.Desk.TheVariants.{Crew}
use Rattle.register.specs.Register.{Register}
use Rattle.register.specs.Memory.{well_formed, decode}
use Rattle.board.specs.Board.{board_seen, draw_board}
use Rattle.board.specs.Full.{board_in}

-- the text of a crew's board is made of that of the full one, line by line
abbrev pub CrewFollows : Type 0
CrewFollows = (s : Register) → board_seen Crew s ≡ crew_part (board_in s)

-- a line that says a transmission's number, and one of a ranked fix
abbrev pub is_header : List ℕ → Bool
is_header l = starts_with nat_eq l (ascii "transmission=")

abbrev pub is_ranked : List ℕ → Bool
is_ranked l = starts_with nat_eq l (ascii "role=ranked")

-- a header by its number alone: up to the first blank
abbrev pub without_counts : List ℕ → List ℕ
without_counts l = if is_header l then before_first (λ b. b == 32) l else l

-- the ranked lines of a full board's text, under the numbers of their transmissions
abbrev pub ranked_lines : List ℕ → List (List ℕ)
ranked_lines text = map without_counts (filter (λ l. is_header l || is_ranked l) (slice_split (λ b. b == 10) text))

-- two registers whose full boards have the same ranked lines under the same numbers give crews the same bytes
abbrev pub SameToCrews : Type 0
SameToCrews = (s t : Register) → ranked_lines (board_in s) ≡ ranked_lines (board_in t) → board_seen Crew s ≡ board_seen Crew t

-- a board is refused with 15, 1, 10, the first that holds; else it is written, to a crew in the crew's form and to an analyst and a manager in full. A desk is a number
-- here: every one above 2 is none.
abbrev pub BoardInOrder : Type 0
BoardInOrder = (desk : ℕ) (m out : List ℕ)
    → draw_board desk m out
    ≡ cond (ltb 2 desk) (after 15 out)
    (cond (not (well_formed m)) (after 1 out)
    (cond (ltb (length out) board_size) (after 10 out)
    (write_text (cond (eqb desk 0) (board_seen Crew (decode m)) (board_in (decode m))) out)))
