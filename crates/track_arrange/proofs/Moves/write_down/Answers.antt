use mathlib.Core.Path.{ap, ◌∙◌}
use mathlib.Core.List.{List}
use Prim.Native.Nat.{ℕ}
use native.Mathlib.Omega.{arith}
use Rattle.track_arrange.specs.Blocks.{block_of, put_block}
use Rattle.track_arrange.proofs.Placing.{none-placed, next-placed, still-there, block-size}
use Rattle.track_arrange.proofs.Moves.write_down.Goals as goal

pub loop-i-init : goal.loop-i-init
loop-i-init c = none-placed c.args.t.now

pub loop-i-preserved : goal.loop-i-preserved
loop-i-preserved c =
    let n : ℕ = c.args.self.n in
    let fs : List (List ℕ) = c.args.self.further.now in
    let h = c.loop-i-test.true in
    next-placed (block_of n c.args.t.now fs) c.args.self.order.now c.loop-i.i c.loop-i.invariant h c.args.self.few_left (omega arith)
    (block-size n c.args.t.now fs _ (omega (arith, c.args.self.few)) c.args.self.sized (c.args.self.within c.loop-i.i h))
    (c.put.ensures ∙ ap (λ (b : List ℕ). put_block c.loop-i.i b c.loop-i.t) (still-there n c.args.t.now c.loop-i.t fs _ c.loop-i.i _ c.loop-i.invariant (c.requires c.loop-i.i h)))
