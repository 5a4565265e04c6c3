use mathlib.Core.Path.{◌≡◌}
use mathlib.Core.List.{map}
use lib.ListN.{take}
use Rattle.track_shelf.specs.Memory.{waiting_in}
use Rattle.track_shelf.proofs.view.Shelf.fixes.Given as goal

abbrev pub invariant-loop-place : goal.invariant-loop-place
invariant-loop-place l = l.fixes.items ≡ map waiting_in (take l.place-index l.places)
