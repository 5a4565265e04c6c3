use Rattle.std.proofs.Common.{◌≡◌, length}
use Rattle.register.specs.Calls.{runs}
use Rattle.session_lines.specs.Gives.{lines_left}
use Rattle.session_lines.specs.Session.{at_start, calls_from}
use Rattle.rooms_text.proofs.reading.perform_all.Given as goal

-- what is left of the session leaves what all of it does
abbrev pub invariant-loop-call : goal.invariant-loop-call
invariant-loop-call l = runs l.initial.memory (calls_from (at_start l.input)) ≡ runs l.memory (calls_from (lines_left l.lines))

abbrev pub decreases-loop-call : goal.decreases-loop-call
decreases-loop-call l = length l.lines.rest.now
