use Rattle.std.proofs.Common.{◌≡◌, map, ◌++◌, length}
use Rattle.session_lines.specs.Gives.{lines_left, call_of}
use Rattle.session_lines.specs.Session.{at_start, calls_from}
use Rattle.rooms_orders.proofs.trying.calls_of.Given as goal

-- the calls that were read, and those that are left, are all
abbrev pub invariant-loop-call : goal.invariant-loop-call
invariant-loop-call l = calls_from (at_start l.input) ≡ map call_of l.calls.items ++ calls_from (lines_left l.lines)

abbrev pub decreases-loop-call : goal.decreases-loop-call
decreases-loop-call l = length l.lines.rest.now
