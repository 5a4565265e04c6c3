use Rattle.std.proofs.Common.{◌≡◌, true, refl, sym, ◌∙◌}
use Rattle.models.specs.Answers.{summary_places}
use Rattle.track_shelf.specs.Memory.{shelf_formed}
use Rattle.track_shelf.proofs.Shelves.{other_size, sound}
use Rattle.track_shelf.proofs.view.Shelf.parse.Goals as goal

pub returns-in_default : goal.returns-in_default
returns-in_default c = rw (other_size c.args.convicted (summary_places c.args.all) c.args.bytes.now c.in_default.ensures.1) refl

pub invariant_of-result : goal.invariant_of-result
invariant_of-result c =
    let is-shelf : shelf_formed c.args.convicted (summary_places c.args.all) c.in-Ok.bytes.now ≡ true = sym c.well_formed-2.ensures ∙ c.if-well_formed.true in
    sound c.args.convicted (summary_places c.args.all) c.in-Ok.bytes.now is-shelf
