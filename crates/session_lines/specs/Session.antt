-- A session, operation by operation (docs/REFERENCE.md, 'Session').
use Rattle.std.specs.Prelude.{ℕ, zero, suc, cond, List, [], ◌∷◌, length, ◌==◌, Result, Ok, Err, Option, Some, None}
use Rattle.register.specs.Calls.{Call}
use Rattle.session_lines.specs.declared.lines.BadLine.{BadLine}
use Rattle.session_lines.specs.Lines.{At, Reading, ◌>>=◌}
use Rattle.session_lines.specs.Operations.{operation_at}

abbrev pub at_start : List ℕ → At
at_start bytes = record { rest = bytes; line = 1 }

-- operations until no byte is left, and at most so many
unfoldable pub operations_at : ℕ → At → Reading (List Call)
operations_at zero s = Ok ([], s)
operations_at (suc most) s = cond (length s.rest == 0) (Ok ([], s)) do
  c ← operation_at s
  cs ← operations_at most c.1
  Ok (c.0 ∷ cs.0, cs.1)

-- the calls of what is left of a session, or its first bad line: it has no more operations than bytes
unfoldable pub session_at : At → Result (List Call) BadLine
session_at s = do
  cs ← operations_at (length s.rest) s
  Ok cs.0

-- the same of a whole session, whose first line has the number 1
abbrev pub session_of : List ℕ → Result (List Call) BadLine
session_of bytes = session_at (at_start bytes)

-- the first bad line
abbrev pub bad_of : {A : Type 0} → Result A BadLine → Option BadLine
bad_of (Ok a) = None
bad_of (Err e) = Some e

-- an operation's call, and those after it
abbrev pub calls_by : (At → List Call) → Reading Call → List Call
calls_by next (Ok c) = c.0 ∷ next c.1
calls_by next (Err e) = []

-- the calls before the first bad line, and at most so many
unfoldable pub calls_at : ℕ → At → List Call
calls_at zero s = []
calls_at (suc most) s = calls_by (calls_at most) (operation_at s)

-- all of them
abbrev pub calls_from : At → List Call
calls_from s = calls_at (length s.rest) s
