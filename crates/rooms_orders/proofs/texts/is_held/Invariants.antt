use Rattle.std.proofs.Common.{◌≡◌, map, drop}
use Rattle.register.specs.Calls.{elem}
use Rattle.rooms_orders.specs.Tried as O
use Rattle.rooms_orders.proofs.texts.is_held.Given as goal

-- it is held exactly if it is among those that are left
abbrev pub invariant-loop-held : goal.invariant-loop-held
invariant-loop-held l = elem l.text (map O.text_of l.texts) ≡ elem l.text (drop l.held-index (map O.text_of l.texts))
