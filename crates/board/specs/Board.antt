-- The board of a register, in the form of each desk (docs/REFERENCE.md, 'Operations', 'Desks' and 'Register and board').
use Rattle.std.specs.Prelude.{ℕ, cond, List, ltb, length}
use Rattle.board_picture.specs.Picture.{picture, latest_of}
use Rattle.fix_lines.specs.Text.{board_text, board_size}
use Rattle.fix_lines.specs.Crew.{crew_text}
use Rattle.errors.specs.After.{After, after, write_text}
use Rattle.desks.specs.declared.Desk.{Desk}
use Rattle.desks.specs.declared.Desk.TheVariants.{Crew, Analyst, Manager}
use Rattle.desks.specs.Desks.{at_desk}
use Rattle.register.specs.Register.{Register}
use Rattle.register.specs.Memory.{well_formed, decode}

-- the board of summaries and of records with their signers: the text of the latest that they show
unfoldable pub board_of : List (List ℕ) → List (List ℕ) → List ℕ
board_of ss ps = board_text (latest_of (picture ss ps))

-- the same for a crew: the ranked lines alone, under headers that give only the number
unfoldable pub crew_board_of : List (List ℕ) → List (List ℕ) → List ℕ
crew_board_of ss ps = crew_text (latest_of (picture ss ps))

-- in the form of a desk: an analyst and a manager see all of it
abbrev pub board_for : Desk → List (List ℕ) → List (List ℕ) → List ℕ
board_for Crew ss ps = crew_board_of ss ps
board_for Analyst ss ps = board_of ss ps
board_for Manager ss ps = board_of ss ps

abbrev pub board_seen : Desk → Register → List ℕ
board_seen desk s = board_for desk s.summaries s.records

-- 1 for bytes that are no register, then 10 for an output under 16,384 bytes; else the board is written
unfoldable pub draw_for : Desk → List ℕ → List ℕ → After (List ℕ)
draw_for desk m out = cond (well_formed m) (cond (ltb (length out) board_size) (after 10 out) (write_text (board_seen desk (decode m)) out)) (after 1 out)

-- a desk is asked for before: 15 where there is none of this number
abbrev pub draw_board : ℕ → List ℕ → List ℕ → After (List ℕ)
draw_board n m out = at_desk n out (λ desk. draw_for desk m out)
