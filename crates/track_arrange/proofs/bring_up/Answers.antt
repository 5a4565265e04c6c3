use Prim.Native.Nat.{ℕ, ◌*◌}
use mathlib.Core.Path.{ap₂, ◌∙◌}
use mathlib.Core.List.{List}
use native.Mathlib.Omega.{arith}
use lib.ListN.{take, drop}
use Rattle.tables.proofs.Walks.{part_in}
use Rattle.decision_items.proofs.Pairing.{taken, width}
use Rattle.track_transmission.specs.Layout.{transmission_size}
use Rattle.track_arrange.proofs.Placing.{put-back}
use Rattle.track_arrange.proofs.bring_up.Goals as goal

pub returns : goal.returns
returns c =
    let t : List ℕ = c.args.t.now in
    let p : ℕ = c.args.place * transmission_size in
    let parts = c.split_at_mut-front.ensures in
    put-back t _ _ _ _ _ c.args.i parts.front parts.back c.copy.ensures.to_after
    (ap₂ (λ (k : ℕ) (y : List ℕ). take k (drop p y)) (width transmission_size p) parts.front ∙ part_in transmission_size p (c.args.i * transmission_size) t (omega (arith, c.requires)))
    (taken transmission_size p t (omega (arith, c.requires)))
