use Rattle.std.proofs.Common.{◌∙◌}
use Rattle.fixes.specs.Items.{no_fix}
use Rattle.fixes.proofs.Showing.{get_or-default}
use Rattle.board_picture.proofs.Adding.{known-in, known-there}
use Rattle.board_picture.proofs.picture.Picture.first.Goals as goal

pub bounds-fixes-first : goal.bounds-fixes-first
bounds-fixes-first c = known-in c.self.inside.fixes.now c.self.inside.lines.items c.self.inside.parts.items c.self.invariant _ c.deref.ensures.0 c.args.k _ (rw (← c.self.view_is) at c.requires)

pub returns : goal.returns
returns c =
    let h = rw (← c.self.view_is) at c.requires in
    let m = c.self.inside in
    rw (← c.self.view_is)
    (c.index-fixes-first.is ∙ get_or-default m.fixes.now _ _ no_fix (known-in m.fixes.now m.lines.items m.parts.items c.self.invariant _ c.deref.ensures.0 c.args.k _ h)
    ∙ known-there m.fixes.now m.lines.items m.parts.items c.self.invariant _ c.deref.ensures.0 c.args.k _ h)
