use mathlib.Core.Path.{ap, ◌∙◌}
use mathlib.Core.List.{List}
use Prim.Native.Nat.{ℕ, ◌-◌, ◌<◌}
use native.Mathlib.Omega.{arith}
use lib.ListN.{length}
use Rattle.track_arrange.specs.Blocks.{block_of, put_block}
use Rattle.track_arrange.proofs.Placing.{none-lifted, next-lifted, all-lifted, still-low, block-size}
use Rattle.track_arrange.proofs.Moves.write_up.Goals as goal

pub loop-i-init : goal.loop-i-init
loop-i-init c = none-lifted (block_of c.args.self.n c.args.t.now c.args.self.further.now) c.args.self.order.now c.args.t.now

pub loop-i-preserved : goal.loop-i-preserved
loop-i-preserved c =
    let n : ℕ = c.args.self.n in
    let fs : List (List ℕ) = c.args.self.further.now in
    let i : ℕ = c.loop-i.i - 1 in
    let h : i < length c.args.self.order.now = omega (arith, c.loop-i-test.true, c.loop-i.auto.i) in
    next-lifted (block_of n c.args.t.now fs) c.args.self.order.now c.loop-i.i i c.loop-i.invariant (omega (arith, c.loop-i-test.true)) h c.args.self.few_left (omega arith)
    (block-size n c.args.t.now fs _ (omega (arith, c.args.self.few)) c.args.self.sized (c.args.self.within i h))
    (c.put.ensures ∙ ap (λ (b : List ℕ). put_block i b c.loop-i.t) (still-low n c.args.t.now c.loop-i.t fs _ c.loop-i.i _ _ c.loop-i.invariant (λ l. let u = c.requires i h l in omega (arith, u, c.loop-i-test.true))))

pub returns : goal.returns
returns c = all-lifted (block_of c.args.self.n c.args.t.now c.args.self.further.now) c.args.self.order.now c.loop-i.i c.loop-i.invariant c.loop-i-test.false
