-- What is said of two rooms: what the first lacks, what the second lacks, whether their registers are equal but for the convicted set, and their boards (of a manager).
-- Source: docs/REFERENCE.md, 'Two rooms'.
use Rattle.std.specs.Prelude.{ℕ, Bool, List, ◌++◌, drop, if◌then◌else◌}
use Rattle.octets.specs.Ascii.{ascii}
use Rattle.octets.specs.Order.{same}
use Rattle.register.specs.Layout.{summary_count_at}
use Rattle.register.specs.Memory.{decode}
use Rattle.register_join.specs.Lacks.{lacking}
use Rattle.board.specs.Full.{board_in}
use Rattle.rooms_text.specs.declared.lines.Room.TheVariants as room
use Rattle.rooms_text.specs.Lacking.{lacking_text}
use Rattle.rooms_text.specs.Boards.{boards_text}

-- all bytes but the first four, the convicted engines
abbrev pub is_equal : List ℕ → List ℕ → Bool
is_equal m n = same (drop summary_count_at m) (drop summary_count_at n)

abbrev pub equal_line : Bool → List ℕ
equal_line equal = if equal then ascii "registers=equal\n" else ascii "registers=different\n"

-- of the bytes of two registers; `lacking t s` is what s lacks of t
unfoldable pub compared : List ℕ → List ℕ → List ℕ
compared m n =
    let a = decode m in
    let b = decode n in
    ((lacking_text room.A (lacking b a) ++ lacking_text room.B (lacking a b)) ++ equal_line (is_equal m n)) ++ boards_text (board_in a) (board_in b)
