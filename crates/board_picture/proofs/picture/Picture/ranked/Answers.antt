use Rattle.std.proofs.Common.{ℕ, ◌+◌, ◌-◌, ◌≡◌, refl, arith}
use Rattle.board_picture.proofs.Adding.{ranked-ends, ranked-there}
use Rattle.board_picture.proofs.picture.Picture.ranked.Goals as goal

behind : (start n : ℕ) → start + n - start ≡ n
behind start n = omega arith

pub slice_bounds-result-end : goal.slice_bounds-result-end
slice_bounds-result-end c =
    ranked-ends c.self.inside.fixes.now c.self.inside.lines.items c.self.inside.parts.items c.self.invariant _ c.deref.ensures.0 c.args.k _ (rw (← c.self.view_is) at c.requires) _ c.deref-2.ensures.0 _ refl

pub returns-clause-lines : goal.returns-clause-lines
returns-clause-lines c =
    rw (← c.self.view_is)
    (ranked-there c.self.inside.fixes.now c.self.inside.lines.items c.self.inside.parts.items c.self.invariant _ c.deref.ensures.0 c.args.k _ (rw (← c.self.view_is) at c.requires) _ c.deref-2.ensures.0 _ (behind _ _))
