use Rattle.std.proofs.Common.{◌≡◌, ◌++◌, ◌+◌, flat_map}
use Rattle.lists.specs.Ordered.{up_to}
use Rattle.rooms_text.specs.Boards.{difference}
use Rattle.rooms_text.proofs.boards.push_differences.Given as goal

abbrev pub invariant-loop-index : goal.invariant-loop-index
invariant-loop-index l = l.out.items ≡ l.initial.out.items ++ flat_map (λ index. difference l.a l.b (index + 1)) (up_to l.index)
