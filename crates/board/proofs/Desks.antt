-- A desk in place of its number.
use Rattle.std.proofs.Common.{ℕ, ◌≡◌, refl, true, cond, List}
use mathlib.Core.Bool.{false≢true}
use Rattle.errors.specs.After.{after}
use Rattle.desks.specs.declared.Desk.{Desk}
use Rattle.desks.specs.declared.Desk.TheVariants.{Crew, Analyst, Manager}
use Rattle.desks.specs.Desks.{number_of}
use Rattle.desks.specs.Previewing.{may_preview}
use Rattle.board.specs.Board.{draw_for, draw_board}
use Rattle.board.specs.Preview.{preview_of, draw_preview}

pub draw-by : (desk : Desk) (m out : List ℕ) → draw_board (number_of desk) m out ≡ draw_for desk m out
draw-by Crew m out = refl
draw-by Analyst m out = refl
draw-by Manager m out = refl

pub preview-for : (desk : Desk) (e : ℕ) (m out : List ℕ) → draw_preview (number_of desk) e m out ≡ cond (may_preview desk) (preview_of e m out) (after 16 out)
preview-for Crew e m out = refl
preview-for Analyst e m out = refl
preview-for Manager e m out = refl

-- who may preview sees all of a board
pub full-for : (desk : Desk) → may_preview desk ≡ true → (m out : List ℕ) → draw_for desk m out ≡ draw_for Manager m out
unfolding draw_for
full-for Crew h m out = absurd (false≢true h)
full-for Analyst h m out = refl
full-for Manager h m out = refl
