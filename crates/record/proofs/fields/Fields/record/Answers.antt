use Rattle.std.proofs.Common.{◌≡◌, ◌∙◌, refl, sym, ap, false}
use Rattle.record.specs.Formed.{well_formed}
use Rattle.record.specs.Encoded.{bytes_of}
use Rattle.record.proofs.fields.Fields.record.Goals as goal

pub returns-else-well_formed : goal.returns-else-well_formed
returns-else-well_formed c =
    let unformed : well_formed (bytes_of c.args.self.now) ≡ false = ap well_formed (sym c.bytes-bytes.ensures) ∙ sym c.if-well_formed.ensures in
    rw unformed refl
