use Prim.Native.Nat.{ℕ, ◌*◌, ◌-◌}
use mathlib.Core.Path.{◌≡◌, sym, ap, ◌∙◌}
use mathlib.Core.List.{List}
use native.Mathlib.Omega.{arith}
use lib.ListN.{get_or, take, drop}
use Rattle.track_transmission.specs.Layout.{transmission_size}
use Rattle.track_arrange.specs.Blocks.{put_block}
use Rattle.track_arrange.proofs.Placing.{of-table, of-further, put-is, put-same}
use Rattle.track_arrange.proofs.Moves.put.Goals as goal

pub returns-then-self-place : goal.returns-then-self-place
returns-then-self-place c =
    put-is c.args.i _ c.put_bytes.ensures (c.args.self.sized (get_or c.args.self.order.now c.args.i 0 - c.args.self.n) (omega (arith, c.if-self-place.true, c.args.self.within c.args.i c.requires))) (omega (arith, c.requires, c.args.self.few_left))
    (sym (of-further c.args.self.n _ c.args.self.further.now (get_or c.args.self.order.now c.args.i 0) c.if-self-place.true))

pub returns-then-i-place : goal.returns-then-i-place
returns-then-i-place c =
    c.bring_down.ensures ∙ ap (λ (b : List ℕ). put_block c.args.i b c.args.t.now) (sym (of-table c.args.self.n c.args.t.now c.args.self.further.now (get_or c.args.self.order.now c.args.i 0) c.if-self-place.false))

pub returns-then-place-i : goal.returns-then-place-i
returns-then-place-i c =
    c.bring_up.ensures ∙ ap (λ (b : List ℕ). put_block c.args.i b c.args.t.now) (sym (of-table c.args.self.n c.args.t.now c.args.self.further.now (get_or c.args.self.order.now c.args.i 0) c.if-self-place.false))

pub returns-else-place-i : goal.returns-else-place-i
returns-else-place-i c =
    let e : c.args.i ≡ (get_or c.args.self.order.now c.args.i 0) = omega (arith, c.if-i-place.false, c.if-place-i.false) in
    put-same c.args.i c.args.t.now
    ∙ ap (λ (b : List ℕ). put_block c.args.i b c.args.t.now)
    (ap (λ (k : ℕ). take transmission_size (drop (k * transmission_size) c.args.t.now)) e ∙ sym (of-table c.args.self.n c.args.t.now c.args.self.further.now (get_or c.args.self.order.now c.args.i 0) c.if-self-place.false))
