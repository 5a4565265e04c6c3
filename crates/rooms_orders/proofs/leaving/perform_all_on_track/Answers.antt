use Rattle.std.proofs.Common.{◌∙◌, ◌+◌, ap, sym, ℕ, List, map, drop}
use Rattle.register.specs.Calls.{Call}
use Rattle.track.specs.Calls as T
use Rattle.orders.specs.Claims.{track_calls}
use Rattle.session_lines.specs.Gives.{call_of}
use Rattle.rooms_orders.proofs.Loops.{next, none}
use Rattle.rooms_orders.proofs.Performed.{run-on-track, none-on-track}
use Rattle.rooms_orders.proofs.leaving.perform_all_on_track.Goals as goal

pub loop-call-preserved : goal.loop-call-preserved
loop-call-preserved c =
    let before : List ℕ × List ℕ = (c.loop-call.memory, c.loop-call.shelf) in
    let left : List ℕ × List ℕ = (c.perform_on_track.new.memory, c.perform_on_track.new.shelf) in
    c.loop-call.invariant
    ∙ ap (λ (cs : List Call). T.runs before (track_calls cs)) (next call_of c.args.calls.now c.loop-call.call-index c.call-item.result c.loop-call-test.true c.call-item.is)
    ∙ run-on-track before left (call_of c.call-item.result) (drop (c.loop-call.call-index + 1) (map call_of c.args.calls.now)) c.perform_on_track.ensures

pub returns : goal.returns
returns c =
    let left : List ℕ × List ℕ = (c.loop-call.memory, c.loop-call.shelf) in
    sym (c.loop-call.invariant
    ∙ ap (λ (cs : List Call). T.runs left (track_calls cs)) (none call_of c.args.calls.now c.loop-call.call-index c.loop-call-test.false)
    ∙ none-on-track left)
