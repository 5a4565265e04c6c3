-- What is said of a session on standard error, and the status that the program ends with (docs/REFERENCE.md, 'Session').
use Rattle.std.specs.Prelude.{ℕ, Bool, List, length, ◌==◌, if◌then◌else◌, Result, Ok, Err, Option, Some, None}
use Rattle.register.specs.Calls.{Call}
use Rattle.register.specs.Memory.{fresh}
use Rattle.session_lines.specs.Session.{at_start, calls_from}
use Rattle.session_text.specs.declared.refusals.Refusal.{Refusal}
use Rattle.session_text.specs.Output.{calls_of}
use Rattle.session_text.specs.Reasons.{reason_text, reason_of}
use Rattle.session_notices.specs.declared.saying.Ending.{Ending}
use Rattle.session_notices.specs.declared.saying.Ending.TheVariants as ending
use Rattle.session_notices.specs.Notices.{notices}

-- the reason of a refusal, else the notices
abbrev pub told_by : List ℕ → Result (List Call) Refusal → List ℕ
told_by input (Ok cs) = notices 1 1 fresh cs
told_by input (Err r) = reason_of input

unfoldable pub told_of : List ℕ → List ℕ
told_of input = told_by input (calls_of input)

-- how a session with these notices ends
abbrev pub ending_with : List ℕ → Ending
ending_with t = if length t == 0 then ending.Done else ending.Unanswered

-- how a session ends
abbrev pub ending_by : Result (List Call) Refusal → Ending
ending_by (Ok cs) = ending_with (notices 1 1 fresh cs)
ending_by (Err r) = ending.Refused

unfoldable pub ending_of : List ℕ → Ending
ending_of input = ending_by (calls_of input)

-- ---- the same where it is known whether the session was refused, and why

-- the sentence on that refusal, else the notices of the calls before the first bad line
abbrev pub said_of : List ℕ → Option Refusal → List ℕ
said_of input None = notices 1 1 fresh (calls_from (at_start input))
said_of input (Some r) = reason_text input r

abbrev pub ended_as : List ℕ → Option Refusal → Ending
ended_as input None = ending_with (notices 1 1 fresh (calls_from (at_start input)))
ended_as input (Some r) = ending.Refused

-- ---- the exit status

abbrev pub status_of : Ending → Bool → ℕ
status_of ending.Done strict = 0
status_of ending.Refused strict = 1
status_of ending.Unanswered strict = if strict then 4 else 0
