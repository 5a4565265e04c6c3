-- What the code's reader gives is what reading gives.
-- Source: docs/REFERENCE.md, 'Session'.
use Rattle.std.specs.Prelude.{◌≡◌, Result, Ok, Err}
use Rattle.desks.specs.declared.Desk.TheVariants.{Manager}
use Rattle.desks.specs.Desks.{number_of}
use Rattle.register.specs.Calls as calls
use Rattle.record.specs.Encoded.{bytes_of}
use Rattle.session_lines.specs.declared.lines.Lines.{Lines}
use Rattle.session_lines.specs.declared.lines.BadLine.{BadLine}
use Rattle.session_lines.specs.declared.lines.Call.{Call}
use Rattle.session_lines.specs.declared.lines.Call.TheVariants as call
use Rattle.session_lines.specs.Lines.{At, Reading}

abbrev pub lines_left : Lines → At
lines_left l = record { rest = l.rest.now; line = l.line }

-- a value, seen by view, and the lines that are left; or the first bad line
abbrev pub Gives : {A B : Type 0} → (A → B) → Result A BadLine → Lines → Reading B → Type 0
Gives view (Ok a) new m = m ≡ Ok (view a, lines_left new)
Gives view (Err e) new m = m ≡ Err e

abbrev pub call_of : Call → calls.Call
call_of (call.Summary engine model spec inputs) = calls.summary engine model spec inputs
call_of (call.Conviction engine) = calls.conviction (number_of Manager) engine
call_of (call.Report engine fields) = calls.report engine (bytes_of fields)
