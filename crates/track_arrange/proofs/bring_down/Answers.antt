use Prim.Native.Nat.{ℕ, ◌*◌}
use mathlib.Core.Path.{ap, ◌∙◌}
use mathlib.Core.List.{List, ◌++◌}
use native.Mathlib.Omega.{arith}
use lib.ListN.{take, drop, length-take}
use Rattle.octets.specs.Put.{Put}
use Rattle.decision_items.proofs.Pairing.{taken}
use Rattle.track_transmission.specs.Layout.{transmission_size}
use Rattle.track_arrange.proofs.Placing.{put-front}
use Rattle.track_arrange.proofs.bring_down.Goals as goal

pub returns : goal.returns
returns c =
    let t : List ℕ = c.args.t.now in
    let i : ℕ = c.args.i in
    let p : ℕ = c.args.place * transmission_size in
    let written : Put (take p t) (i * transmission_size) (take transmission_size (drop p t)) c.put_bytes.result c.put_bytes.new.to = rw (c.split_at_mut-front.ensures.front, c.split_at_mut-front.ensures.back) at c.put_bytes.ensures in
    ap (λ (b : List ℕ). c.put_bytes.new.to ++ b) c.split_at_mut-front.ensures.back
    ∙ put-front t (take transmission_size (drop p t)) i p written (taken transmission_size p t (omega (arith, c.requires))) (omega (arith, c.requires)) (omega (arith, c.requires))

pub slice_bounds-put_bytes-end-2 : goal.slice_bounds-put_bytes-end-2
slice_bounds-put_bytes-end-2 c =
    let b = c.split_at_mut-front.ensures.back_len in
    let l = length-take transmission_size c.split_at_mut-front.result.1.now in
    omega (arith, b, l, c.requires)

pub put_bytes-requires : goal.put_bytes-requires
put_bytes-requires c =
    let f = c.split_at_mut-front.ensures.front_len in
    let l = length-take transmission_size c.split_at_mut-front.result.1.now in
    omega (arith, f, l, c.requires)
