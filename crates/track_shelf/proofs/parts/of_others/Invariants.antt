use mathlib.Core.Path.{◌≡◌}
use mathlib.Core.Bool.{not}
use lib.ListN.{take}
use Rattle.std.specs.List.{filter}
use Rattle.track_shelf.specs.Waiting.{is_reported_by}
use Rattle.track_shelf.proofs.parts.of_others.Given as goal

abbrev pub invariant-loop-fix : goal.invariant-loop-fix
invariant-loop-fix l = l.part.items ≡ filter (λ w. not (is_reported_by l.fn.engine w)) (take l.fix-index l.all)
