use Rattle.std.proofs.Common.{◌≡◌, map, drop}
use Rattle.track.specs.Calls as T
use Rattle.orders.specs.Claims.{track_calls}
use Rattle.session_lines.specs.Gives.{call_of}
use Rattle.rooms_orders.proofs.leaving.perform_all_on_track.Given as goal

-- the calls that are left leave what all leave
abbrev pub invariant-loop-call : goal.invariant-loop-call
invariant-loop-call l =
    T.runs (l.initial.memory, l.initial.shelf) (track_calls (map call_of l.calls)) ≡ T.runs (l.memory, l.shelf) (track_calls (drop l.call-index (map call_of l.calls)))
