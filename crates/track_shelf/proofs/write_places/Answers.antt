use native.Mathlib.Omega.{arith}
use Rattle.track_shelf.specs.Layout.{place_size, max_waiting}
use Rattle.track_shelf.specs.Memory.{waiting_bytes}
use Rattle.track_transmission.proofs.Writing.{written-none, written-next, written-table}
use Rattle.track_shelf.proofs.write_places.Goals as goal

pub loop-fix-init : goal.loop-fix-init
loop-fix-init c = written-none place_size waiting_bytes c.args.fixes.now _

pub loop-fix-preserved : goal.loop-fix-preserved
loop-fix-preserved c = written-next place_size waiting_bytes _ _ _ _ _ _ _ _ c.loop-fix.invariant c.loop-fix-test.true c.fix-item.is c.put-at.ensures

pub returns : goal.returns
returns c =
    written-table place_size waiting_bytes _ _ max_waiting _ _ c.args.places.now _ c.loop-fix.invariant c.clear.ensures c.requires.size c.requires.few (omega arith) (omega arith)
