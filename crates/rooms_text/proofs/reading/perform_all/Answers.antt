use Rattle.session_lines.specs.Gives.{lines_left, call_of}
use Rattle.session_lines.proofs.Forward.{left_less}
use Rattle.rooms_text.proofs.Held.{performed-more, performed-end}
use Rattle.rooms_text.proofs.reading.perform_all.Goals as goal

pub loop-call-smaller : goal.loop-call-smaller
loop-call-smaller c = left_less (lines_left c.loop-call.lines) (call_of c.in-Ok.call) (lines_left c.operation.new.self) c.in-Ok.ensures.call

pub loop-call-preserved : goal.loop-call-preserved
loop-call-preserved c = performed-more _ _ _ c.loop-call.invariant (call_of c.in-Ok.call) (lines_left c.operation.new.self) c.in-Ok.ensures.call _ _ c.perform.ensures

pub returns : goal.returns
returns c = performed-end _ _ _ c.loop-call.invariant c.in_default.field-0 c.in_default.ensures.call
