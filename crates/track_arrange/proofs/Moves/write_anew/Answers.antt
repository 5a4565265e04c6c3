use mathlib.Core.Path.{ap, ◌∙◌}
use mathlib.Core.List.{List, ◌++◌}
use Prim.Native.Nat.{ℕ}
use native.Mathlib.Omega.{arith}
use lib.ListN.{length, get_or}
use Rattle.tables.proofs.Tables.{length-places}
use Rattle.track_transmission.specs.Layout.{transmission_size}
use Rattle.track_arrange.specs.Blocks.{block_in, block_of}
use Rattle.track_arrange.proofs.Placing.{none-placed, next-placed, put-is, block-size}
use Rattle.track_arrange.proofs.Moves.write_anew.Goals as goal

pub loop-i-init : goal.loop-i-init
loop-i-init c = none-placed c.args.t.now

pub block_at-block-requires : goal.block_at-block-requires
block_at-block-requires c = rw (c.places_of-places.ensures, length-places transmission_size c.args.self.n c.args.t.now) (c.args.self.within c.loop-i.i c.loop-i-test.true)

pub loop-i-preserved : goal.loop-i-preserved
loop-i-preserved c =
    let n : ℕ = c.args.self.n in
    let fs : List (List ℕ) = c.args.self.further.now in
    let h = c.loop-i-test.true in
    let k : ℕ = get_or c.args.self.order.now c.loop-i.i 0 in
    let is = c.block_at-block.ensures ∙ ap (λ (bs : List (List ℕ)). block_in (bs ++ fs) k) c.places_of-places.ensures in
    let size = block-size n c.args.t.now fs k (omega (arith, c.args.self.few)) c.args.self.sized (c.args.self.within c.loop-i.i h) in
    next-placed (block_of n c.args.t.now fs) c.args.self.order.now c.loop-i.i c.loop-i.invariant h c.args.self.few_left (omega arith) size
    (put-is c.loop-i.i _ c.put_bytes.ensures (ap length is ∙ size) (omega (arith, h, c.args.self.few_left, c.loop-i.invariant.size)) is)
