use Rattle.std.proofs.Common.{◌≡◌, ◌∙◌, sym, refl, true}
use Rattle.register.specs.Memory.{well_formed}
use Rattle.rooms_text.specs.Reading.{saved_in, left_by}
use Rattle.rooms_text.proofs.reading.read_saved.Goals as goal

pub returns-clause-left : goal.returns-clause-left
returns-clause-left c =
    let formed : well_formed c.args.input.now ≡ true = sym c.well_formed-2.ensures ∙ c.if-not-well_formed.false in
    let held : left_by (saved_in c.args.input.now) c.args.memory.now ≡ c.args.input.now = rw formed refl in
    sym held
