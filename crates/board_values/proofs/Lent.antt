-- The entries of the fixes of a register are the register's.
use Rattle.std.proofs.Common.{ℕ, ◌≤◌, ◌≡◌, refl, ap, ◌∙◌, sym, true, List, [], ◌∷◌, arith, length}
use Rattle.lists.specs.Lists.{sort}
use Rattle.board_fixes.specs.Slots.{max_fixes}
use Rattle.board_fixes.specs.Fixes.{fixes_of}
use Rattle.board_fixes.specs.Order.{identities_ascend}
use Rattle.board_fixes.proofs.Kept.{apart}
use Rattle.fixes.specs.Fix.{Fix}
use Rattle.fixes.specs.Items.{AllFormed}
use Rattle.board_transmissions.specs.Transmissions.{transmissions_of}
use Rattle.board_picture.specs.Picture.{picture}
use Rattle.register.specs.Register.{Register}
use Rattle.board_values.specs.Entries.{entries_from, entries_shown}
use Rattle.board_values.specs.Written.{fixes_size, fixes_in}
use Rattle.board_values.specs.Drawn.{fixes_over}
use Rattle.board_values.proofs.Room.{over-fits}

none-over : (rs : List (List ℕ)) (fs : List Fix) → length fs ≡ 0 → fixes_over rs fs ≡ []
unfolding transmissions_of sort entries_from
none-over rs [] h = refl
none-over rs (f ∷ fs) h = absurd (omega arith)

module _ (s : Register) (fs : List Fix) (is : fs ≡ fixes_of s.summaries s.records) where
  pub fixes-are : fixes_over s.records fs ≡ fixes_in s
  unfolding entries_shown picture
  fixes-are = ap (fixes_over s.records) is

  pub none-written : length fs ≡ 0 → fixes_in s ≡ []
  none-written h = sym fixes-are ∙ none-over s.records fs h

  module _ (formed : AllFormed fs) (in_order : identities_ascend fs ≡ true) (few : length fs ≤ max_fixes) where
    pub lies : length (fixes_over s.records fs) ≤ fixes_size
    lies = over-fits s.records fs formed (apart fs in_order) few

    pub fixes-lie : length (fixes_in s) ≤ fixes_size
    fixes-lie = rw fixes-are at lies
