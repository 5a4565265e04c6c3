-- No claim rests on these definitions: they say what a board shows of fixes, and what is left of an output when a register is drawn.
use Rattle.std.specs.Prelude.{ℕ, cond, List, map, ltb, length}
use Rattle.lists.specs.Lists.{sort}
use Rattle.fixes.specs.Fix.{Fix}
use Rattle.fixes.specs.Shown.{Transmission, shown}
use Rattle.board_transmissions.specs.Transmissions.{transmissions_of}
use Rattle.board_picture.specs.Picture.{older_than, latest_of}
use Rattle.fix_lines.specs.Text.{text_from, board_size}
use Rattle.fix_lines.specs.Crew.{crew_text_from}
use Rattle.errors.specs.After.{After, after, write_text}
use Rattle.register.specs.Register.{Register}
use Rattle.desks.specs.declared.Desk.{Desk}
use Rattle.desks.specs.declared.Desk.TheVariants.{Crew, Analyst, Manager}
use Rattle.board.specs.Board.{board_seen}

abbrev pub latest_over : List Fix → List Transmission
latest_over fs = latest_of (sort older_than (map shown (transmissions_of fs)))

-- the text of transmissions in the form of a desk, the first with this number
abbrev pub text_for : Desk → ℕ → List Transmission → List ℕ
text_for Crew number ts = crew_text_from number ts
text_for Analyst number ts = text_from number ts
text_for Manager number ts = text_from number ts

-- 10 for an output under 16,384 bytes; else the board is written
abbrev pub drawn : Desk → Register → List ℕ → After (List ℕ)
drawn desk s out = cond (ltb (length out) board_size) (after 10 out) (write_text (board_seen desk s) out)
