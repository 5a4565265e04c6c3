use Rattle.desks.specs.Desks.{has_right}
use Rattle.track.specs.Calls as T
use Rattle.rooms_orders.proofs.Performed.{acted}
use Rattle.rooms_orders.proofs.leaving.perform_on_track.Goals as goal

pub returns-in-Summary : goal.returns-in-Summary
returns-in-Summary c = rw c.in-Summary.is (acted _ _ _ _ c.summary.ensures)

pub returns-in-Conviction : goal.returns-in-Conviction
unfolding has_right
returns-in-Conviction c = rw c.in-Conviction.is (acted _ _ _ (T.conviction c.in-Conviction.engine) c.conviction.ensures)

pub returns-in-Report : goal.returns-in-Report
returns-in-Report c = rw (c.in-Report.is, ← c.bytes.ensures) (acted _ _ _ _ c.report.ensures)
