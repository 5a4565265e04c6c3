-- What is claimed of what a session prints, and of the reason why it is refused. The contracts of src/claims.rt name it; the proofs are in proofs/Quiet,
-- proofs/Performing, proofs/Refused and proofs/There. That the line which is due where a session is refused is the bad one is claimed of the grammar (session_lines specs/Claims).
-- Source: docs/REFERENCE.md, 'Session'.
use Rattle.std.specs.Prelude.{ℕ, ◌*◌, ◌-◌, ◌≤◌, ◌<◌, ◌≡◌, true, List, [], ◌++◌, ltb, eqb, length, take, get_or, Ok, Err}
use Rattle.octets.specs.Bytes.{Bytes}
use Rattle.register.specs.Memory.{well_formed, decode, fresh}
use Rattle.register.specs.Calls.{Call, runs}
use Rattle.desks.specs.declared.Desk.TheVariants.{Manager}
use Rattle.desks.specs.Desks.{number_of}
use Rattle.fix_lines.specs.Text.{board_size}
use Rattle.board.specs.Board.{draw_board}
use Rattle.board.specs.Full.{board_in}
use Rattle.session_lines.specs.declared.lines.BadLine.{BadLine}
use Rattle.session_lines.specs.Session.{session_of}
use Rattle.session_lines.specs.Claims.{pass_line}
use Rattle.session_text.specs.Output.{max_input, calls_of, answers, no_transmissions, printed, output_of}
use Rattle.session_text.specs.Performed.{answers_size, perform_session}
use Rattle.session_text.specs.Found.{behind_lines}
use Rattle.session_text.specs.Reasons.{bad_line_reason, reason_of}

-- ---- what is printed

-- something is printed, whatever the input is
abbrev pub NeverSilent : Type 0
NeverSilent = (s : List ℕ) → 0 < length (output_of s)

-- an empty input is a list without calls: it prints the line `transmissions=0` alone
abbrev pub EmptyIsQuiet : Type 0
EmptyIsQuiet = output_of [] ≡ no_transmissions

-- no other input prints this line alone
abbrev pub OnlyEmptyIsQuiet : Type 0
OnlyEmptyIsQuiet = (s : List ℕ) → output_of s ≡ no_transmissions → s ≡ []

-- where the board has no bytes, the same line comes after the answers
abbrev pub LineWithoutBoard : Type 0
LineWithoutBoard = (s : List ℕ) (cs : List Call) → length s ≤ max_input → session_of s ≡ Ok cs
    → board_in (decode (runs fresh cs)) ≡ [] → output_of s ≡ answers fresh cs ++ no_transmissions

-- a board with bytes comes after the answers as it is
abbrev pub BoardAsItIs : Type 0
BoardAsItIs = (s : List ℕ) (cs : List Call) → length s ≤ max_input → session_of s ≡ Ok cs
    → 0 < length (board_in (decode (runs fresh cs))) → output_of s ≡ answers fresh cs ++ board_in (decode (runs fresh cs))

-- and none is this line, so that what is printed shows which of the two it was
abbrev pub NoBoardIsTheLine : Type 0
NoBoardIsTheLine = (m : List ℕ) → Bytes m → well_formed m ≡ true → board_in (decode m) ≡ no_transmissions → ⊥

-- ---- what is performed on a register

-- the line of each answer has nine bytes, so that no length is 1, 10, 11 or 12
abbrev pub NineBytesEach : Type 0
NineBytesEach = (s m out : List ℕ) (cs : List Call) → well_formed m ≡ true → calls_of s ≡ Ok cs → answers_size ≤ length out
    → (perform_session s m out).answer ≡ 9 * length cs

-- what the program prints of a session that is not refused is what performing it on a fresh register writes, and then what a manager's board of that register
-- writes, or the line where that is nothing
abbrev pub PrintedAsPerformed : Type 0
PrintedAsPerformed = (s out drawn : List ℕ) (cs : List Call) → calls_of s ≡ Ok cs → answers_size ≤ length out → board_size ≤ length drawn
    → let p = perform_session s fresh out in
    let b = draw_board (number_of Manager) p.left.0 drawn in
    output_of s ≡ take p.answer p.left.1 ++ printed (take b.answer b.left)

-- ---- the reason of a refusal

-- there is a reason exactly where what the session prints begins with the 'r' of `refused=`
abbrev pub ReasonWhereRefused : Type 0
ReasonWhereRefused = (s : List ℕ) → ltb 0 (length (reason_of s)) ≡ eqb (get_or (output_of s) 0 0) 114

-- the reason of a session with a bad line is the sentence on the first of them
abbrev pub NamesTheBadLine : Type 0
NamesTheBadLine = (s : List ℕ) (bad : BadLine) → length s ≤ max_input → session_of s ≡ Err bad → reason_of s ≡ bad_line_reason s bad

-- what is shown begins where that line is due, and no such line stands there
abbrev pub ShownIsBad : Type 0
ShownIsBad = (s : List ℕ) (bad : BadLine) → session_of s ≡ Err bad → pass_line bad.due (record { rest = behind_lines (bad.line - 1) s; line = bad.line }) ≡ Err bad
