use Rattle.std.proofs.Common.{◌≡◌, true, refl, sym, ◌∙◌}
use Rattle.octets.proofs.Numbers.{all-bytes}
use Rattle.track_memory.specs.Memory.{well_formed}
use Rattle.track_memory.proofs.Opened.{other-size}
use Rattle.track_memory.proofs.view.View.parse.Goals as goal

pub returns-in_default : goal.returns-in_default
returns-in_default c = rw (other-size c.args.bytes.now c.in_default.ensures.1) refl

pub invariant_of-result : goal.invariant_of-result
invariant_of-result c =
    let is-track : well_formed c.in-Ok.bytes.now ≡ true = sym c.well_formed-2.ensures ∙ c.if-well_formed.true in
    (is-track, rw c.in-Ok.ensures.1.same (all-bytes c.args.bytes.now (λ i. (c.type_inv.bytes i).fits)))
