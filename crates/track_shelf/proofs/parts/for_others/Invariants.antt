use mathlib.Core.Path.{◌≡◌}
use mathlib.Core.Bool.{not}
use lib.ListN.{take}
use Rattle.std.specs.List.{filter}
use Rattle.track_shelf.specs.Waiting.{waits_for}
use Rattle.track_shelf.proofs.parts.for_others.Given as goal

abbrev pub invariant-loop-fix : goal.invariant-loop-fix
invariant-loop-fix l = l.part.items ≡ filter (λ w. not (waits_for l.fn.model w)) (take l.fix-index l.all)
