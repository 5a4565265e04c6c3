use Rattle.std.proofs.Common.{refl, sym, ap, ◌∙◌, arith, length}
use Rattle.errors.specs.After.{after}
use Rattle.session_lines.specs.Gives.{lines_left, call_of}
use Rattle.session_lines.proofs.Forward.{left_less}
use Rattle.session_notices.proofs.Steps.{saying-more, saying-end}
use Rattle.session_notices.proofs.noting.notices.Goals as goal

pub loop-call-init : goal.loop-call-init
loop-call-init c =
    let line = c.new-lines.ensures.line in
    let rest = c.new-lines.ensures.rest in
    let none = c.new-out.ensures.items in
    record { text = rw (none, rest, line) refl; here = sym line; few = omega (arith, ap length rest) }

pub loop-call-smaller : goal.loop-call-smaller
loop-call-smaller c = left_less (lines_left c.loop-call.lines) (call_of c.in-Ok.call) (lines_left c.operation.new.self) c.in-Ok.ensures.call

pub loop-call-preserved : goal.loop-call-preserved
loop-call-preserved c =
    saying-more _ _ _ _ _ _ _ c.loop-call.invariant (call_of c.in-Ok.call) (lines_left c.operation.new.self) c.in-Ok.ensures.call
    (left_less (lines_left c.loop-call.lines) (call_of c.in-Ok.call) (lines_left c.operation.new.self) c.in-Ok.ensures.call) _ _ (ap (λ n. after n c.perform.new.memory) c.answer_number-answer.ensures ∙ c.perform.ensures) _ c.in_ok-note.ensures

pub returns : goal.returns
returns c = saying-end _ _ _ _ _ _ _ c.loop-call.invariant c.in_default.field-0 c.in_default.ensures.call
