-- What a session prints (docs/REFERENCE.md, 'Session'): `refused=12` alone where the input is longer than the longest that is read, else `refused=11 line=N`
-- alone for the first bad line, else the answer of each operation and then the board; where the board has no bytes, `transmissions=0` stands in its place.
use Rattle.std.specs.Prelude.{ℕ, ◌+◌, cond, List, [], ◌∷◌, ◌++◌, ltb, length, Result, Ok, Err}
use Rattle.std.specs.Result.{result_map_both}
use Rattle.text.specs.Numbers.{decimal}
use Rattle.octets.specs.Ascii.{ascii}
use Rattle.register.specs.Memory.{decode, fresh}
use Rattle.register.specs.Calls.{Call, called, runs}
use Rattle.fix_lines.specs.Text.{board_size}
use Rattle.board.specs.Full.{board_in}
use Rattle.session_lines.specs.Session.{session_of}
use Rattle.session_text.specs.declared.refusals.Refusal.{Refusal}
use Rattle.session_text.specs.declared.refusals.Refusal.TheVariants as refusal

-- the longest input that is read
abbrev pub max_input : ℕ
max_input = 65536

-- the calls of a session, or why it is refused
unfoldable pub calls_of : List ℕ → Result (List Call) Refusal
calls_of input = cond (ltb max_input (length input)) (Err refusal.TooLong) (result_map_both (λ cs. cs) refusal.BadLine (session_of input))

unfoldable pub answer_line : ℕ → List ℕ
answer_line n = (ascii "answer=" ++ decimal n) ++ ascii "\n"

-- what a session may print: the answers, each shorter than its operation, and a board
abbrev pub output_size : ℕ
output_size = max_input + board_size

-- the answers of calls on a register, first to last
unfoldable pub answers : List ℕ → List Call → List ℕ
answers m [] = []
answers m (c ∷ cs) = answer_line (called c m).answer ++ answers (called c m).left cs

-- the line in place of a board without bytes
abbrev pub no_transmissions : List ℕ
no_transmissions = ascii "transmissions=0\n"

-- a board as it is printed
abbrev pub printed : List ℕ → List ℕ
printed [] = no_transmissions
printed (b ∷ t) = b ∷ t

-- the answers, then the board
unfoldable pub answers_then_board : List ℕ → List Call → List ℕ
answers_then_board m cs = answers m cs ++ printed (board_in (decode (runs m cs)))

unfoldable pub refusal_text : Refusal → List ℕ
refusal_text refusal.TooLong = ascii "refused=12\n"
refusal_text (refusal.BadLine bad) = (ascii "refused=11 line=" ++ decimal bad.line) ++ ascii "\n"

abbrev pub text_by : Result (List Call) Refusal → List ℕ
text_by (Ok cs) = answers_then_board fresh cs
text_by (Err r) = refusal_text r

unfoldable pub output_of : List ℕ → List ℕ
output_of input = text_by (calls_of input)
