use Prim.Native.Nat.{ℕ}
use mathlib.Core.Path.{sym, ap, ap₂, ◌∙◌, subst}
use mathlib.Core.List.Memᴰ
use mathlib.Core.List.{List, [], ◌∷◌, ◌++◌, map}
use native.Mathlib.Omega.{arith}
use lib.ListN.{length, length-map}
use Rattle.track_transmission.specs.Held.{HeldTransmission}
use Rattle.track_transmission.specs.Bytes.{transmission_in}
use Rattle.track_transmission.specs.Parts.{Steady}
use Rattle.track_arrange.specs.Arranged.{arranged}
use Rattle.track_arrange.specs.Blocks.{blocks, held}
use Rattle.track_arrange.specs.Leads.{order_of}
use Rattle.track_arrange.proofs.Tables.{count-is}
use Rattle.track_arrange.proofs.admit.Goals as goal

pub push-requires : goal.push-requires
push-requires c =
    let f = c.requires.filled in
    let e = ap length c.blocks-all.ensures ∙ length-map (blocks c.args.n c.args.t.now) transmission_in ∙ count-is c.args.t.now c.args.n f in
    (omega arith, omega (arith, e, f.few))

pub settle-requires-clause-steady : goal.settle-requires-clause-steady
settle-requires-clause-steady c b m = subst Steady (sym (Memᴰ.eq_of_singleton (rw c.from_ref.ensures.value at m))) c.requires.steady

pub settle-requires-clause-order : goal.settle-requires-clause-order
settle-requires-clause-order c =
    let ts = held c.args.n c.args.t.now in
    c.deref.ensures.0 ∙ c.order-order.ensures
    ∙ ap order_of
    (c.push.ensures.items
    ∙ ap₂ (λ (l : List HeldTransmission) (t : HeldTransmission). l ++ (t ∷ [])) c.blocks-all.ensures c.of.ensures
    ∙ ap (λ (fs : List (List ℕ)). ts ++ map transmission_in fs) (sym c.from_ref.ensures.value))

pub returns-clause-held : goal.returns-clause-held
returns-clause-held c = c.settle.ensures.held ∙ ap (λ (fs : List (List ℕ)). arranged (held c.args.n c.args.t.now ++ map transmission_in fs)) c.from_ref.ensures.value
