use Rattle.session_lines.specs.Gives.{lines_left, call_of}
use Rattle.session_lines.proofs.Forward.{left_less}
use Rattle.session_text.proofs.Answering.{answered-more, answered-end}
use Rattle.session_text.proofs.answer_all.Goals as goal

pub loop-call-smaller : goal.loop-call-smaller
loop-call-smaller c = left_less (lines_left c.loop-call.lines) (call_of c.in-Ok.call) (lines_left c.operation.new.self) c.in-Ok.ensures.call

pub loop-call-preserved : goal.loop-call-preserved
loop-call-preserved c =
    answered-more _ _ _ _ _ c.loop-call.invariant (call_of c.in-Ok.call) (lines_left c.operation.new.self) c.in-Ok.ensures.call _ _ c.perform-answer.ensures _ c.push_answer.ensures

pub returns-clause-text : goal.returns-clause-text
returns-clause-text c = (answered-end _ _ _ _ _ c.loop-call.invariant c.in_default.field-0 c.in_default.ensures.call).0

pub returns-clause-left : goal.returns-clause-left
returns-clause-left c = (answered-end _ _ _ _ _ c.loop-call.invariant c.in_default.field-0 c.in_default.ensures.call).1
