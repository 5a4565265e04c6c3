use mathlib.Core.Path.{refl, sym, ap, ◌∙◌}
use Rattle.std.specs.Int.Bits.{bit_or}
use Rattle.fixes.specs.Fix.{with_signers}
use Rattle.board_fixes.proofs.Uniting.{first, second}
use Rattle.board_fixes.proofs.unite.Goals.{then-not-equal, else-not-equal}
use Rattle.board_fixes.proofs.unite.Goals as goal

pub returns : goal.returns
returns c = elim c.if-not-equal.branch [
  | then-not-equal w ↦
      let k = second _ _ _ _ c.lesser-represents.ensures c.equal.ensures w.if-not-equal.true in
      rw (w.fix-inside-is, c.union-signers.ensures, ← c.fix.view_is, ← c.other.view_is, k)
      (ap (with_signers (bit_or c.fix.inside.signers c.other.inside.signers)) (w.fix-then-not-equal.view_is ∙ sym c.other.view_is))
  | else-not-equal w ↦
      let k = first _ _ _ _ c.lesser-represents.ensures c.equal.ensures w.if-not-equal.false in
      rw (w.fix-inside-is, c.union-signers.ensures, ← c.fix.view_is, ← c.other.view_is, k) refl
]
