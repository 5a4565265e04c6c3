use Rattle.std.proofs.Common.{ap}
use Rattle.board_picture.specs.Lines.{ShownPart}
use Rattle.board_picture.proofs.Adding.{part-there}
use Rattle.board_picture.proofs.picture.Picture.counts.Goals as goal

pub returns : goal.returns
returns c =
    rw (← c.self.view_is)
    (ap (λ (p : ShownPart). p.counts)
    (part-there c.self.inside.fixes.now c.self.inside.lines.items c.self.inside.parts.items c.self.invariant _ c.deref.ensures.0 c.args.k _ (rw (← c.self.view_is) at c.requires)))
