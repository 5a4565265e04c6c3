use Rattle.std.proofs.Common.{ℕ, ◌+◌, ◌-◌, ◌≡◌, arith}
use Rattle.board_picture.proofs.Adding.{ends-there, lines-there}
use Rattle.board_picture.proofs.picture.Picture.lines.Goals as goal

behind : (start n k : ℕ) → n ≡ k → start + n - start ≡ k
behind start n k e = omega arith

pub slice_bounds-result-end : goal.slice_bounds-result-end
slice_bounds-result-end c =
    ends-there c.self.inside.fixes.now c.self.inside.lines.items c.self.inside.parts.items c.self.invariant _ c.deref.ensures.0 c.args.k _ (rw (← c.self.view_is) at c.requires) _ c.deref-2.ensures.0 _ c.all.ensures.value

pub returns-clause-lines : goal.returns-clause-lines
returns-clause-lines c =
    rw (← c.self.view_is)
    (lines-there c.self.inside.fixes.now c.self.inside.lines.items c.self.inside.parts.items c.self.invariant _ c.deref.ensures.0 c.args.k _ (rw (← c.self.view_is) at c.requires) _ c.deref-2.ensures.0 _ (behind _ _ _ c.all.ensures.value))
