-- The text of a board for a crew, made from the text of the full board, line by line.
-- Source: docs/REFERENCE.md, 'Text'.
use Rattle.std.specs.Prelude.{ℕ, ◌==◌, nat_eq, if◌then◌else◌, ◌≡◌}
use Rattle.std.specs.List.{before_first, slice_split, starts_with}
use mathlib.Core.List.{List, [], ◌++◌, flat_map}
use Rattle.octets.specs.Ascii.{ascii}
use Rattle.fixes.specs.Shown.{Transmission}
use Rattle.fix_lines.specs.Text.{board_text}
use Rattle.fix_lines.specs.Crew.{crew_text}

-- what a crew sees of a line of the full board, without its line feed: a header up to the first blank, a ranked line as it is, and nothing else
abbrev pub crew_line : List ℕ → List ℕ
crew_line l =
    if starts_with nat_eq l (ascii "transmission=") then before_first (λ b. b == 32) l ++ ascii "\n"
    else if starts_with nat_eq l (ascii "role=ranked") then l ++ ascii "\n"
    else []

-- line by line
abbrev pub crew_part : List ℕ → List ℕ
crew_part text = flat_map crew_line (slice_split (λ b. b == 10) text)

-- the crew's text follows from the full text alone
abbrev pub CrewFromFull : Type 0
CrewFromFull = (ts : List Transmission) → crew_part (board_text ts) ≡ crew_text ts
