-- A line for each operation that is answered otherwise than 0 (docs/REFERENCE.md, 'Session'): which operation it is, on which line it begins, what is answered, and
-- why.
use Rattle.std.specs.Prelude.{ℕ, ◌+◌, Bool, true, List, [], ◌∷◌, ◌++◌, ◌==◌, ◌&&◌, if◌then◌else◌, codes}
use Rattle.octets.specs.Ascii.{ascii}
use Rattle.text.specs.Numbers.{decimal}
use Rattle.register.specs.Calls.{Call, report, summary, conviction, called}

-- the lines of an operation
abbrev pub lines_of : Call → ℕ
lines_of (report e r) = 12
lines_of (summary e model spec inputs) = 5
lines_of (conviction desk e) = 2

-- an answer's name in C, and why an operation of a session has it
abbrev pub reason_for : ℕ → List ℕ
reason_for answer =
    if answer == 2 then codes "TL_ENGINE_OVER_31: there is no engine with a number over 31"
    else if answer == 3 then codes "TL_MALFORMED_RECORD: what is reported is no well-formed record"
    else if answer == 4 then codes "TL_ENGINE_CONVICTED: the engine is convicted"
    else if answer == 5 then codes "TL_FULL: it is not held yet, and the register is full"
    else if answer == 9 then codes "TL_BAD_SUMMARY: there is no model with a number over 63"
    else codes "no answer of a session"

unfoldable pub notice : ℕ → ℕ → ℕ → List ℕ
notice number line answer =
    ((((ascii "operation " ++ decimal number) ++ (ascii ", line " ++ decimal line)) ++ (ascii ": answer=" ++ decimal answer)) ++ ascii ", ")
    ++ reason_for answer ++ ascii "\n"

-- nothing, where the answer is 0
abbrev pub notice_if_refused : ℕ → ℕ → ℕ → List ℕ
notice_if_refused number line answer = if answer == 0 then [] else notice number line answer

-- the notices of calls on a register's bytes, first to last; the first of them has this number, and begins on this line
unfoldable pub notices : ℕ → ℕ → List ℕ → List Call → List ℕ
notices number line m [] = []
notices number line m (c ∷ cs) =
    notice_if_refused number line (called c m).answer ++ notices (number + 1) (line + lines_of c) (called c m).left cs

-- whether each call is answered 0
unfoldable pub all_done : List ℕ → List Call → Bool
all_done m [] = true
all_done m (c ∷ cs) = (called c m).answer == 0 && all_done (called c m).left cs
