use Rattle.std.proofs.Common.{◌≡◌, length}
use Rattle.session_lines.specs.Session.{session_of, session_at, bad_of}
use Rattle.session_lines.specs.Gives.{lines_left}
use Rattle.session_lines.proofs.session.check.Given as goal

abbrev pub invariant-loop-lines : goal.invariant-loop-lines
invariant-loop-lines l = bad_of (session_of l.input) ≡ bad_of (session_at (lines_left l.lines))

abbrev pub decreases-loop-lines : goal.decreases-loop-lines
decreases-loop-lines l = length l.lines.rest.now
