use Rattle.track_shelf.specs.Layout.{place_size}
use Rattle.track_shelf.specs.Memory.{waiting_bytes}
use Rattle.track_transmission.proofs.Writing.{Written}
use Rattle.track_shelf.proofs.write_places.Given as goal

abbrev pub invariant-loop-fix : goal.invariant-loop-fix
invariant-loop-fix l = Written place_size waiting_bytes l.fixes l.initial.places l.fix-index l.at l.places
