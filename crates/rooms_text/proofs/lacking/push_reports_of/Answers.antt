use Rattle.std.proofs.Common.{arith}
use Rattle.rooms_text.proofs.Heap.{none-yet, one-more}
use Rattle.rooms_text.proofs.lacking.push_reports_of.Goals as goal

pub loop-engine-init : goal.loop-engine-init
loop-engine-init c = record { most = omega arith; text = none-yet _ _ }

pub loop-engine-preserved : goal.loop-engine-preserved
loop-engine-preserved c = record { most = omega (arith, c.loop-engine-test.true); text = one-more _ _ _ _ _ c.loop-engine.invariant.text c.in_ok-push_report_by.ensures }
