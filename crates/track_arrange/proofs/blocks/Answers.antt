use mathlib.Core.List.{List, []}
use mathlib.Core.Path.{ap, ◌∙◌, sym, subst}
use Prim.Native.Nat.{ℕ}
use native.Mathlib.Omega.{arith}
use lib.ListN.{length, get_or, take, length-map}
use lib.Seq.{length-take-le}
use Rattle.track_transmission.specs.Bytes.{transmission_in}
use Rattle.track_transmission.specs.Parts.{Sound}
use Rattle.track_arrange.proofs.Tables.{count-is, steady-at}
use Rattle.track_arrange.proofs.blocks.Goals as goal

pub of-requires : goal.of-requires
of-requires c =
    let e = count-is c.args.t.now c.args.n c.requires in
    subst (λ (bs : List (List ℕ)). Sound (get_or bs c.loop-place.place-index [])) (sym c.places_of-places.ensures)
    (steady-at c.args.t.now c.args.n c.requires c.loop-place.place-index (omega (arith, e, ap length c.places_of-places.ensures, c.loop-place-test.true))).sound

pub push-requires : goal.push-requires
push-requires c =
    let i = c.loop-place.place-index in
    let places = c.places_of-places.result.now in
    let e = count-is c.args.t.now c.args.n c.requires in
    let l = ap length c.loop-place.invariant ∙ length-map (take i places) transmission_in ∙ length-take-le i places (omega (arith, c.loop-place-test.true)) in
    (omega arith, omega (arith, l, e, ap length c.places_of-places.ensures, c.loop-place-test.true, c.requires.few))
