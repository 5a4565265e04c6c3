-- The board of the fixes of a register is the register's.
use Rattle.std.proofs.Common.{ℕ, ◌≤◌, ◌≡◌, refl, sym, ap, ◌∙◌, true, List, [], ◌∷◌, arith, le_trans, length}
use Rattle.board_fixes.specs.Slots.{max_fixes}
use Rattle.board_fixes.specs.Fixes.{fixes_of}
use Rattle.board_fixes.specs.Order.{identities_ascend}
use Rattle.board_fixes.proofs.Kept.{apart}
use Rattle.fixes.specs.Fix.{Fix}
use Rattle.fixes.specs.Shown.{Transmission}
use Rattle.fixes.specs.Items.{AllFormed}
use Rattle.lists.specs.Lists.{sort}
use Rattle.board_transmissions.specs.Transmissions.{transmissions_of}
use Rattle.board_picture.specs.Picture.{picture}
use Rattle.desks.specs.declared.Desk.{Desk}
use Rattle.desks.specs.declared.Desk.TheVariants.{Crew, Analyst, Manager}
use Rattle.fix_lines.specs.Text.{text_from, board_size}
use Rattle.fix_lines.specs.Crew.{crew_text_from}
use Rattle.fix_lines.proofs.Crew.{crew-shorter}
use Rattle.register.specs.Register.{Register}
use Rattle.board.specs.Board.{board_of, crew_board_of, board_seen}
use Rattle.board.specs.Latest.{latest_over, text_for}
use Rattle.board.proofs.Fitting.{board-fits}

-- of none there is nothing
no-text : (desk : Desk) (fs : List Fix) → length fs ≡ 0 → text_for desk 1 (latest_over fs) ≡ []
unfolding transmissions_of sort text_from crew_text_from
no-text Crew [] h = refl
no-text Analyst [] h = refl
no-text Manager [] h = refl
no-text desk (f ∷ fs) h = absurd (omega arith)

-- the full text is the longest
longest : (desk : Desk) (n : ℕ) (ts : List Transmission) → length (text_for desk n ts) ≤ length (text_from n ts)
longest Crew n ts = crew-shorter n ts
longest Analyst n ts = omega arith
longest Manager n ts = omega arith

module _ (desk : Desk) (s : Register) (fs : List Fix) (is : fs ≡ fixes_of s.summaries s.records) where
  pub board-is : text_for desk 1 (latest_over fs) ≡ board_seen desk s
  unfolding board_of crew_board_of picture
  board-is = ap (λ (z : List Fix). text_for desk 1 (latest_over z)) is ∙ in-form desk
    where
      in-form : (d : Desk) → text_for d 1 (latest_over (fixes_of s.summaries s.records)) ≡ board_seen d s
      in-form Crew = refl
      in-form Analyst = refl
      in-form Manager = refl

  pub none-written : length fs ≡ 0 → board_seen desk s ≡ []
  none-written h = sym board-is ∙ no-text desk fs h

  module _ (formed : AllFormed fs) (in_order : identities_ascend fs ≡ true) (few : length fs ≤ max_fixes) where
    pub lies : length (text_for desk 1 (latest_over fs)) ≤ board_size
    lies = le_trans (longest desk 1 (latest_over fs)) (board-fits fs formed (apart fs in_order) few)

    pub board-lies : length (board_seen desk s) ≤ board_size
    board-lies = rw board-is at lies
