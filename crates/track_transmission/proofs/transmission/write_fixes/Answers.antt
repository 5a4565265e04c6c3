use mathlib.Core.Path.{ap, ◌∙◌}
use mathlib.Core.List.{map}
use native.Mathlib.Omega.{arith}
use Rattle.tables.specs.Places.{table_of}
use Rattle.track_transmission.specs.Layout.{fix_size, max_standing}
use Rattle.track_transmission.specs.Bytes.{fix_bytes}
use Rattle.track_transmission.proofs.Writing.{written-none, written-next, written-table}
use Rattle.track_transmission.proofs.transmission.write_fixes.Goals as goal

pub loop-fix-init : goal.loop-fix-init
loop-fix-init c = written-none fix_size fix_bytes c.as_slice-all.result.now _

pub loop-fix-preserved : goal.loop-fix-preserved
loop-fix-preserved c = written-next fix_size fix_bytes _ _ _ _ _ _ _ _ c.loop-fix.invariant c.loop-fix-test.true c.fix-item.is c.put_fix-at.ensures

pub returns : goal.returns
returns c =
    written-table fix_size fix_bytes _ _ max_standing _ _ c.args.out.now _ c.loop-fix.invariant c.clear.ensures c.requires c.as_slice-all.ensures.fits (omega arith) (omega arith)
    ∙ ap (λ l. table_of fix_size max_standing (map fix_bytes l)) c.as_slice-all.ensures.value
