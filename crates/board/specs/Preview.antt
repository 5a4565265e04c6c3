-- The preview of a conviction (docs/REFERENCE.md, 'Preview'): the board as it would then be. The register is only read. What is claimed of it stands in Previews.
use Rattle.std.specs.Prelude.{ℕ, cond, List, eqb}
use Rattle.errors.specs.After.{After, after}
use Rattle.desks.specs.declared.Desk.TheVariants.{Manager}
use Rattle.desks.specs.Desks.{number_of, with_right}
use Rattle.desks.specs.Previewing.{may_preview}
use Rattle.register.specs.Calls.{conviction, called}
use Rattle.board.specs.Board.{draw_board}

-- a manager's conviction of an engine on bytes
abbrev pub convict : ℕ → List ℕ → After (List ℕ)
convict e m = called (conviction (number_of Manager) e) m

-- the engine is convicted on a copy of the register, and the copy is drawn, both as a manager: refused as the conviction is, then as the board is
unfoldable pub preview_of : ℕ → List ℕ → List ℕ → After (List ℕ)
preview_of e m out = let copy = convict e m in cond (eqb copy.answer 0) (draw_board (number_of Manager) copy.left out) (after copy.answer out)

-- a desk is asked for before: 15 where there is none of this number, 16 where it may not preview
abbrev pub draw_preview : ℕ → ℕ → List ℕ → List ℕ → After (List ℕ)
draw_preview n e m out = with_right may_preview n out (preview_of e m out)
