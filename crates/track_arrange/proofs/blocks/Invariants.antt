use mathlib.Core.Path.{◌≡◌}
use mathlib.Core.List.{map}
use lib.ListN.{take}
use Rattle.track_transmission.specs.Bytes.{transmission_in}
use Rattle.track_arrange.proofs.blocks.Given as goal

abbrev pub invariant-loop-place : goal.invariant-loop-place
invariant-loop-place l = l.blocks.items ≡ map transmission_in (take l.place-index l.places)
