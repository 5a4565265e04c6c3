-- What is claimed of what is said of a session. The contracts of src/claims.rt name it; the proofs are in proofs/Nothing,
-- proofs/Counted and proofs/Cases.
-- Source: docs/REFERENCE.md, 'Session'.
use Rattle.std.specs.Prelude.{ℕ, ◌+◌, ◌≡◌, List, length, ◌==◌, if◌then◌else◌, Ok}
use Rattle.std.specs.Result.{result_err}
use Rattle.register.specs.Calls.{Call}
use Rattle.register.specs.Memory.{fresh}
use Rattle.session_lines.specs.Lines.{At}
use Rattle.session_lines.specs.Operations.{operation_at}
use Rattle.session_text.specs.Output.{calls_of}
use Rattle.session_notices.specs.declared.saying.Ending.TheVariants as ending
use Rattle.session_notices.specs.Notices.{lines_of, notices, all_done}
use Rattle.session_notices.specs.Told.{told_of, ending_of, said_of, ended_as}

-- there are notices exactly where some call is answered otherwise than 0
abbrev pub NothingSaid : Type 0
NothingSaid = (number line : ℕ) (m : List ℕ) (cs : List Call) → (length (notices number line m cs) == 0) ≡ all_done m cs

-- a session that is not refused ends as done exactly where each call is answered 0
abbrev pub DoneExactlyWhen : Type 0
DoneExactlyWhen = (s : List ℕ) (cs : List Call) → calls_of s ≡ Ok cs → ending_of s ≡ (if all_done fresh cs then ending.Done else ending.Unanswered)

-- the line on which the next operation begins is found by counting the lines of those before it
abbrev pub LinesCounted : Type 0
LinesCounted = (s : At) (c : Call) (r : At) → operation_at s ≡ Ok (c, r) → r.line ≡ s.line + lines_of c

-- where it is known whether a session is refused, and why, what is said of it and how it ends needs no further reading of its lines
pub record SaidAsTold (s : List ℕ) : Type 0 where
  pub text : said_of s (result_err (calls_of s)) ≡ told_of s
  pub ending : ended_as s (result_err (calls_of s)) ≡ ending_of s

abbrev pub ToldByRefusal : Type 0
ToldByRefusal = (s : List ℕ) → SaidAsTold s
