use Rattle.std.proofs.Common.{◌∙◌, ap, sym, ◌+◌, Bool, List, ◌&&◌, map, drop}
use Rattle.register.specs.Calls.{Call, runs, none_full}
use Rattle.session_lines.specs.Gives.{call_of}
use Rattle.rooms_orders.proofs.Loops.{next, none}
use Rattle.rooms_orders.proofs.Performed.{run, full, runs-none, full-none, and_assoc, and_true}
use Rattle.rooms_orders.proofs.leaving.perform_all.Goals as goal

pub loop-call-preserved : goal.loop-call-preserved
loop-call-preserved c =
    let split = next call_of c.args.calls.now c.loop-call.call-index c.call-item.result c.loop-call-test.true c.call-item.is in
    let rest = drop (c.loop-call.call-index + 1) (map call_of c.args.calls.now) in
    let before = c.loop-call.memory in
    let left = c.perform-answer.new.memory in
    let so_far = c.loop-call.none_full in (
      c.loop-call.invariant.0 ∙ ap (runs before) split ∙ run before left _ (call_of c.call-item.result) rest c.perform-answer.ensures,
      c.loop-call.invariant.1 ∙ ap (λ (cs : List Call). so_far && none_full before cs) split
          ∙ ap (λ (b : Bool). so_far && b) (full before left _ (call_of c.call-item.result) rest c.perform-answer.ensures)
          ∙ sym (and_assoc so_far _ _) ∙ ap (λ (b : Bool). b && none_full left rest) (sym c.still-none_full.ensures),
    )

pub returns-clause-left : goal.returns-clause-left
returns-clause-left c =
    sym (c.loop-call.invariant.0 ∙ ap (runs c.loop-call.memory) (none call_of c.args.calls.now c.loop-call.call-index c.loop-call-test.false) ∙ runs-none c.loop-call.memory)

pub returns-clause-none_full : goal.returns-clause-none_full
returns-clause-none_full c =
    let so_far = c.loop-call.none_full in
    sym (c.loop-call.invariant.1
    ∙ ap (λ (cs : List Call). so_far && none_full c.loop-call.memory cs) (none call_of c.args.calls.now c.loop-call.call-index c.loop-call-test.false)
    ∙ ap (λ (b : Bool). so_far && b) (full-none c.loop-call.memory) ∙ and_true so_far)
