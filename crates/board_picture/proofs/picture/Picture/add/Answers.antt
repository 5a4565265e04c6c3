use Rattle.std.proofs.Common.{ap, refl, sym, ◌∙◌}
use Rattle.fix_lines.specs.declared.Standing.TheVariants.{Ranked}
use Rattle.fixes.specs.Ages.{time_of}
use Rattle.fixes.specs.Items.{no_fix}
use Rattle.fixes.proofs.Showing.{get_or-default}
use Rattle.board_picture.specs.Parts.{Shows}
use Rattle.board_picture.proofs.Adding.{line-there, first-in, within-then, shown-then}
use Rattle.board_picture.proofs.picture.Picture.add.Goals as goal

pub bounds-deref-start : goal.bounds-deref-start
bounds-deref-start c =
    let same = c.requires.same ∙ sym (ap (λ (s : Shows). s.fixes) c.self.view_is) in
    line-there c.self.inside.fixes.now _ _ _ c.self.invariant _ _ c.push_lines-counts.ensures.decided same c.push_lines-counts.ensures.some _ c.deref.ensures.0 _ c.len-start.ensures.value (record { fix = 0; standing = Ranked; against = 0 })

pub bounds-fixes-first : goal.bounds-fixes-first
bounds-fixes-first c =
    let same = c.requires.same ∙ sym (ap (λ (s : Shows). s.fixes) c.self.view_is) in
    first-in c.self.inside.fixes.now _ _ _ c.self.invariant _ _ c.push_lines-counts.ensures.decided same c.push_lines-counts.ensures.some _ c.deref.ensures.0 _ c.len-start.ensures.value _

pub invariant_of-self : goal.invariant_of-self
invariant_of-self c =
    let same = c.requires.same ∙ sym (ap (λ (s : Shows). s.fixes) c.self.view_is) in
    within-then c.self.inside.fixes.now _ _ _ c.self.invariant _ _ c.push_lines-counts.ensures.decided same c.push_lines-counts.ensures.some _ c.deref.ensures.0 _ c.len-start.ensures.value _ _
    (c.time.ensures ∙ ap time_of (c.fix.view_is ∙ c.index-fixes-first.is ∙ get_or-default c.self.inside.fixes.now _ _ no_fix (first-in c.self.inside.fixes.now _ _ _ c.self.invariant _ _ c.push_lines-counts.ensures.decided same c.push_lines-counts.ensures.some _ c.deref.ensures.0 _ c.len-start.ensures.value _))) c.enter.new.parts.items c.enter.ensures

pub returns : goal.returns
returns c =
    let same = c.requires.same ∙ sym (ap (λ (s : Shows). s.fixes) c.self.view_is) in
    let shows = shown-then c.self.inside.fixes.now _ _ _ c.self.invariant _ _ c.push_lines-counts.ensures.decided same c.push_lines-counts.ensures.some _ c.deref.ensures.0 _ c.len-start.ensures.value _ _
    (c.time.ensures ∙ ap time_of (c.fix.view_is ∙ c.index-fixes-first.is ∙ get_or-default c.self.inside.fixes.now _ _ no_fix (first-in c.self.inside.fixes.now _ _ _ c.self.invariant _ _ c.push_lines-counts.ensures.decided same c.push_lines-counts.ensures.some _ c.deref.ensures.0 _ c.len-start.ensures.value _))) c.args.self.now.parts (sym (ap (λ (s : Shows). s.parts) c.self.view_is)) c.enter.new.parts.items c.enter.ensures in
    rw (shows, ap (λ (s : Shows). s.fixes) c.self.view_is) refl
