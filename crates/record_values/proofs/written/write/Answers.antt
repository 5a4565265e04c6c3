use Rattle.std.proofs.Common.{◌∙◌, ap, sym}
use Rattle.record_values.specs.Written.{record_or_found}
use Rattle.record_values.proofs.Room.{no-room, none-had}
use Rattle.record_values.proofs.written.write.Goals as goal

pub returns-in_default : goal.returns-in_default
returns-in_default c =
    let room = none-had _ _ (sym c.fields_of.ensures.fields ∙ c.in_default.is) in
    sym (ap (λ r. record_or_found r c.args.out.now) (no-room c.args.said.now c.fields_of.ensures.six room))
