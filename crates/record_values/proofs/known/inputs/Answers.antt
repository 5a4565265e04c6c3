use Rattle.std.proofs.Common.{◌≡◌, ◌∙◌, true, ap, ap₂, sym, ℕ, List}
use Rattle.errors.proofs.Parsed.{parsed}
use Rattle.record.specs.Formed as R
use Rattle.register.specs.Memory.{well_formed, decode}
use Rattle.register.specs.Register.{Register}
use Rattle.record_values.specs.Known.{inputs_among}
use Rattle.record_values.proofs.known.inputs.Goals as goal

pub returns : goal.returns
returns c =
    let k = parsed (well_formed c.args.memory.now) (decode c.args.memory.now) _ c.parse.ensures _ c.in_ok-register.was in
    let same : c.in-Some.record.bytes.now ≡ c.args.bytes.now = c.in-Some.ensures.same in
    let formed : R.well_formed c.args.bytes.now ≡ true = ap R.well_formed (sym same) ∙ c.in-Some.record.formed in
    rw (k.0, formed)
    (c.inputs_among.ensures
    ∙ ap₂ (λ (ps : List (List ℕ)) (r : List ℕ). inputs_among ps r c.args.out.now) (c.summaries.ensures ∙ ap (λ (x : Register). x.summaries) (sym k.1)) same)
