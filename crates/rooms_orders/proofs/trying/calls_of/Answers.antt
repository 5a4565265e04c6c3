use Rattle.std.proofs.Common.{◌∙◌, ap, sym, List, map, ◌++◌}
use mathlib.Core.List.{append-nil}
use Rattle.register.specs.Calls.{Call}
use Rattle.session_lines.specs.Gives.{lines_left, call_of}
use Rattle.session_lines.specs.Session.{calls_from}
use Rattle.session_lines.proofs.Forward.{left_less, calls-step, calls-end}
use Rattle.rooms_orders.proofs.Loops.{pushed}
use Rattle.rooms_orders.proofs.trying.calls_of.Goals as goal

pub loop-call-smaller : goal.loop-call-smaller
loop-call-smaller c = left_less (lines_left c.loop-call.lines) (call_of c.in-Ok.call) (lines_left c.operation.new.self) c.in-Ok.ensures.call

pub loop-call-preserved : goal.loop-call-preserved
loop-call-preserved c =
    let before = c.loop-call.calls.items in
    c.loop-call.invariant
    ∙ ap (λ (cs : List Call). map call_of before ++ cs) (calls-step (lines_left c.loop-call.lines) (call_of c.in-Ok.call) (lines_left c.operation.new.self) c.in-Ok.ensures.call)
    ∙ pushed call_of before c.push.new.self.items c.in-Ok.call (calls_from (lines_left c.operation.new.self)) c.in_ok-push.ensures.items

pub returns : goal.returns
returns c =
    let read = c.loop-call.calls.items in
    sym (c.loop-call.invariant
    ∙ ap (λ (cs : List Call). map call_of read ++ cs) (calls-end (lines_left c.loop-call.lines) c.in_default.field-0 c.in_default.ensures.call)
    ∙ append-nil (map call_of read))
