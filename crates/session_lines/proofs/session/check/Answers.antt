use Rattle.std.proofs.Common.{◌≡◌, ◌∙◌, sym, refl, ◌<◌, length, arith}
use Rattle.std.proofs.lemmas.Result.{err_from_is_err_and}
use Rattle.session_lines.specs.Gives.{lines_left, call_of}
use Rattle.session_lines.proofs.Forward.{due-here, due-later, bad-end, left_less}
use Rattle.session_lines.proofs.session.check.Goals as goal

pub loop-lines-init : goal.loop-lines-init
loop-lines-init c = rw (c.new-lines.ensures.rest, c.new-lines.ensures.line) refl

pub loop-lines-smaller : goal.loop-lines-smaller
loop-lines-smaller c = left_less (lines_left c.loop-lines.lines) (call_of c.in_ok-operation.field-0) (lines_left c.operation.new.self) c.in_ok-operation.ensures.call

pub loop-lines-preserved : goal.loop-lines-preserved
loop-lines-preserved c = c.loop-lines.invariant ∙ due-later (lines_left c.loop-lines.lines) (call_of c.in_ok-operation.field-0) (lines_left c.operation.new.self) c.in_ok-operation.ensures.call

pub returns-in_err-operation : goal.returns-in_err-operation
returns-in_err-operation c =
    let left : 0 < length c.loop-lines.lines.rest.now = grind arith in
    let p = err_from_is_err_and c.from_residual.result c.from_residual.ensures.1 in
    rw (p.1, p.2) (sym (c.loop-lines.invariant ∙ due-here (lines_left c.loop-lines.lines) c.in_err-operation.field-0.0 left c.in_err-operation.ensures.call))

pub returns : goal.returns
returns c =
    let none : length c.loop-lines.lines.rest.now ≡ 0 = grind arith in
    sym (c.loop-lines.invariant ∙ bad-end (lines_left c.loop-lines.lines) none)
