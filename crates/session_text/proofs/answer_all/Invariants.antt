use Rattle.std.proofs.Common.{length}
use Rattle.text.specs.Texts.{append}
use Rattle.register.specs.Calls.{runs}
use Rattle.session_lines.specs.Gives.{lines_left}
use Rattle.session_lines.specs.Session.{at_start, calls_from}
use Rattle.session_text.specs.Output.{answers}
use Rattle.session_text.proofs.Answering.{Answered}
use Rattle.session_text.proofs.answer_all.Given as goal

abbrev pub invariant-loop-call : goal.invariant-loop-call
invariant-loop-call l =
    let calls = calls_from (at_start l.input) in
    Answered (append l.initial.out (answers l.initial.memory calls)) (runs l.initial.memory calls) l.memory l.out (lines_left l.lines)

abbrev pub decreases-loop-call : goal.decreases-loop-call
decreases-loop-call l = length l.lines.rest.now
