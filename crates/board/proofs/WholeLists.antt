-- The claim about whole lists: both rooms hold and show the same.
use Rattle.std.proofs.Common.{ℕ, ◌≤◌, ◌≡◌, sym, ap, ap₂, ◌∙◌, subst, true, List, length, le-ltb}
use Rattle.fix_lines.specs.Text.{board_size}
use Rattle.errors.specs.After.{write_text}
use Rattle.register.specs.Memory.{decode, fresh}
use Rattle.register.specs.Calls.{Call, runs, none_full}
use Rattle.register.specs.Claims.{SameRemains}
use Rattle.register.proofs.Valid.{Valid}
use Rattle.register.proofs.Whole.{sum, whole, same_bytes, decoded, same-summaries, same-records}
use Rattle.register.proofs.Room.{none-full}
use Rattle.register.proofs.Remaining.{holds-in-order}
use Rattle.desks.specs.declared.Desk.{Desk}
use Rattle.desks.specs.Desks.{number_of}
use Rattle.board.specs.Board.{board_for, board_seen, draw_for, draw_board}
use Rattle.board.specs.Claims.{board_over, SameInBothRooms, WholeLists}
use Rattle.board.proofs.Desks.{draw-by}
use Rattle.board.proofs.Fitting.{no_refusal}

module _ (cs : List Call) (f : none_full fresh cs ≡ true) where
  pub valid : Valid (decode (runs fresh cs))
  valid = subst Valid (sym (decoded cs f)) (sum cs f).valid

  -- the register's board is the board over what remains
  pub board-over : (desk : Desk) → board_seen desk (decode (runs fresh cs)) ≡ board_over desk cs
  board-over desk = let h = holds-in-order cs f in ap₂ (board_for desk) h.0 h.1

  -- and a call draws it
  pub drawn : (desk : Desk) (out : List ℕ) → board_size ≤ length out → draw_board (number_of desk) (runs fresh cs) out ≡ write_text (board_over desk cs) out
  unfolding draw_for
  drawn desk out h = draw-by desk (runs fresh cs) out ∙ rw ((whole cs f).formed, le-ltb _ _ h) (ap (λ (t : List ℕ). write_text t out) (board-over desk))

module _ (cs ds : List Call) (f : none_full fresh cs ≡ true) (g : none_full fresh ds ≡ true) (q : SameRemains cs ds) where
  same-board : (desk : Desk) → board_over desk ds ≡ board_over desk cs
  same-board desk =
      sym (board-over ds g desk)
      ∙ ap (board_seen desk) (decoded ds g)
      ∙ ap₂ (board_for desk) (sym (same-summaries cs ds f g q)) (sym (same-records cs ds f g q))
      ∙ sym (ap (board_seen desk) (decoded cs f))
      ∙ board-over cs f desk

  both-rooms : SameInBothRooms cs ds
  both-rooms = record {
    registers = same_bytes cs ds f g q;
    drawn_north = drawn cs f;
    drawn_south = λ desk out h. drawn ds g desk out h ∙ ap (λ (t : List ℕ). write_text t out) (same-board desk);
    no_refusal = λ desk. rw (← board-over cs f desk) (no_refusal (decode (runs fresh cs)) (valid cs f) desk);
  }

pub whole-lists : WholeLists
whole-lists = record { holds_what_remains = whole; holds_in_order = holds-in-order; full_exactly_when = none-full; same_in_both_rooms = both-rooms }
