use Rattle.std.proofs.Common.{map}
use Rattle.session_lines.specs.Gives.{call_of}
use Rattle.rooms_orders.specs.Tried.{texts_of, drawn_from}
use Rattle.rooms_orders.proofs.Turns.{SoFar}
use Rattle.rooms_orders.proofs.trying.try_orders.Given as goal

-- what is known after the orders so far
abbrev pub invariant-loop-order : goal.invariant-loop-order
invariant-loop-order l =
    SoFar (map call_of l.initial.calls) (drawn_from l.fn.seed) l._order (map call_of l.calls, drawn_from l.random) (texts_of l.boards) (texts_of l.listings) l.full
