use mathlib.Core.Path.{ap}
use Rattle.fixes.specs.Fix.{Fix}
use Rattle.board_transmissions.proofs.Linking.{linked-near, linked-far}
use Rattle.board_transmissions.proofs.is_linked.Goals as goal

pub returns-then-near_in_time : goal.returns-then-near_in_time
returns-then-near_in_time c =
    linked-near c.args.f.now c.args.g.now _ _ _ _ _ (ap (λ (f : Fix). f.record_bytes) c.f.view_is) (ap (λ (f : Fix). f.record_bytes) c.g.view_is)
    c.time.ensures c.time-2.ensures c.near_in_time.ensures _ c.if-near_in_time.true c.is_tied_to.ensures

pub returns-else-near_in_time : goal.returns-else-near_in_time
returns-else-near_in_time c =
    linked-far c.args.f.now c.args.g.now _ _ _ _ _ (ap (λ (f : Fix). f.record_bytes) c.f.view_is) (ap (λ (f : Fix). f.record_bytes) c.g.view_is)
    c.time.ensures c.time-2.ensures c.near_in_time.ensures c.if-near_in_time.false
