use Rattle.std.proofs.Common.{◌≡◌, ◌&&◌, map, drop}
use Rattle.register.specs.Calls.{runs, none_full}
use Rattle.session_lines.specs.Gives.{call_of}
use Rattle.rooms_orders.proofs.leaving.perform_all.Given as goal

-- the calls that are left leave what all leave, and are refused as full where all are
abbrev pub invariant-loop-call : goal.invariant-loop-call
invariant-loop-call l =
    (runs l.initial.memory (map call_of l.calls) ≡ runs l.memory (drop l.call-index (map call_of l.calls)))
    × (none_full l.initial.memory (map call_of l.calls) ≡ (l.none_full && none_full l.memory (drop l.call-index (map call_of l.calls))))
