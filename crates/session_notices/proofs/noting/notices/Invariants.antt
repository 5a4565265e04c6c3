use Rattle.std.proofs.Common.{◌+◌, length}
use Rattle.register.specs.Memory.{fresh}
use Rattle.session_lines.specs.Gives.{lines_left}
use Rattle.session_lines.specs.Session.{at_start, calls_from}
use Rattle.session_notices.specs.Notices.{notices}
use Rattle.session_notices.proofs.Steps.{Saying}
use Rattle.session_notices.proofs.noting.notices.Given as goal

abbrev pub invariant-loop-call : goal.invariant-loop-call
invariant-loop-call l = Saying (notices 1 1 fresh (calls_from (at_start l.input))) (1 + length l.input) l.out.items l.number l.line l.memory (lines_left l.lines)

abbrev pub decreases-loop-call : goal.decreases-loop-call
decreases-loop-call l = length l.lines.rest.now
