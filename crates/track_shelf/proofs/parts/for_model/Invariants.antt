use mathlib.Core.Path.{◌≡◌}
use lib.ListN.{take}
use Rattle.std.specs.List.{filter}
use Rattle.track_shelf.specs.Waiting.{waits_for}
use Rattle.track_shelf.proofs.parts.for_model.Given as goal

abbrev pub invariant-loop-fix : goal.invariant-loop-fix
invariant-loop-fix l = l.part.items ≡ filter (waits_for l.fn.model) (take l.fix-index l.all)
