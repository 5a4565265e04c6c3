-- How two boards differ: each line in which they do, by its number from 1, as it stands on the first and on the second. A board that has fewer lines has nothing there.
-- Source: docs/REFERENCE.md, 'Two rooms'.
use Rattle.std.specs.Prelude.{ℕ, ◌+◌, ◌-◌, List, [], ◌++◌, ◌==◌, flat_map, length, max, count_by, Option, Some, None, if◌then◌else◌}
use Rattle.octets.specs.Ascii.{ascii}
use Rattle.octets.specs.Order.{same}
use Rattle.text.specs.Numbers.{decimal}
use Rattle.lists.specs.Ordered.{up_to}
use Rattle.session_lines.specs.Numbers.{split_once}
use Rattle.session_text.specs.Found.{behind_lines}
use Rattle.rooms_text.specs.declared.lines.Room.{Room}
use Rattle.rooms_text.specs.declared.lines.Room.TheVariants as room
use Rattle.rooms_text.specs.Lines.{letter}

-- each line ends with a line feed
abbrev pub line_count : List ℕ → ℕ
line_count t = count_by (λ b. b == 10) t

abbrev pub front_of : Option (List ℕ × List ℕ) → List ℕ
front_of None = []
front_of (Some p) = p.0

-- what stands before the first line feed; nothing, where there is none
abbrev pub first_line : List ℕ → List ℕ
first_line t = front_of (split_once 10 t)

-- the line of a number, from 1, without its line feed
abbrev pub line_at : ℕ → List ℕ → List ℕ
line_at number t = first_line (behind_lines (number - 1) t)

-- board=A line=2 and a blank
abbrev pub prefix : Room → ℕ → List ℕ
prefix r number = ((ascii "board=" ++ letter r) ++ (ascii " line=" ++ decimal number)) ++ ascii " "

-- no line of a board is empty: so where one is, there is none of this number
abbrev pub board_line : Room → ℕ → List ℕ → List ℕ
board_line r number line = if length line == 0 then [] else (prefix r number ++ line) ++ ascii "\n"

-- the lines of a number, where they differ
abbrev pub difference : List ℕ → List ℕ → ℕ → List ℕ
difference a b number =
    if same (line_at number a) (line_at number b) then []
    else board_line room.A number (line_at number a) ++ board_line room.B number (line_at number b)

unfoldable pub differences : List ℕ → List ℕ → List ℕ
differences a b = flat_map (λ index. difference a b (index + 1)) (up_to (max (line_count a) (line_count b)))

-- of two boards' texts
unfoldable pub boards_text : List ℕ → List ℕ → List ℕ
boards_text a b = if same a b then ascii "boards=equal\n" else ascii "boards=different\n" ++ differences a b
