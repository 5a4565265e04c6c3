-- What is claimed of two control rooms that get the same reports over different links, in different orders: one claim about whole lists of report, summary
-- and conviction calls from a fresh register. A reader who believes this file, and the definitions it names, needs none of the proofs; the theorem is
-- `whole-lists` in proofs/WholeLists.
--
-- register specs/Claims has the first three parts (`HoldsWhatRemains`, `HoldsInOrder`, `FullExactlyWhen`), specs/Calls what is malformed, struck, remaining and refused as full,
-- and `runs`, which folds the very definition that the contracts of report, summary and conviction cite; specs/Board has `draw_board`, which the contract of
-- board cites.
-- Source: docs/REFERENCE.md, 'Any order of calls'.
use Rattle.std.specs.Prelude.{ℕ, ◌≤◌, ◌<◌, ◌≡◌, ◌⊎◌, true, List, length, drop}
use Rattle.fix_lines.specs.Text.{board_size}
use Rattle.register.specs.Layout.{summary_count_at}
use Rattle.register.specs.Memory.{fresh}
use Rattle.register.specs.Calls.{Call, runs, none_full, remaining}
use Rattle.register.specs.Remains.{summaries_held, records_held}
use Rattle.register.specs.Claims.{SameRemains, HoldsWhatRemains, HoldsInOrder, FullExactlyWhen}
use Rattle.errors.specs.After.{write_text}
use Rattle.errors.specs.Errors.{greatest_refusal}
use Rattle.desks.specs.declared.Desk.{Desk}
use Rattle.desks.specs.Desks.{number_of}
use Rattle.board.specs.Board.{board_for, draw_board}

-- the board over what remains, in the form of a desk: of the summaries and records that remain, each record with the engines of its remaining reports as its signers
abbrev pub board_over : Desk → List Call → List ℕ
board_over desk cs = board_for desk (summaries_held (remaining cs)) (records_held (remaining cs))

-- two rooms after their lists
pub record SameInBothRooms (north south : List Call) : Type 0 where
  -- the registers are equal in every byte but the convicted set, which comes first
  pub registers : drop summary_count_at (runs fresh north) ≡ drop summary_count_at (runs fresh south)
  -- both are drawn for one desk, any of the three. Whatever each room lends, if it is enough, it gets the board over what remains: neither call is refused, and both
  -- give this length and these bytes
  pub drawn_north : (desk : Desk) (out : List ℕ) → board_size ≤ length out → draw_board (number_of desk) (runs fresh north) out ≡ write_text (board_over desk north) out
  pub drawn_south : (desk : Desk) (out : List ℕ) → board_size ≤ length out → draw_board (number_of desk) (runs fresh south) out ≡ write_text (board_over desk north) out
  -- and the length can be no refusal's number
  pub no_refusal : (desk : Desk) → (length (board_over desk north) ≡ 0) ⊎ (greatest_refusal < length (board_over desk north))

-- the claim
pub record WholeLists : Type 0 where
  -- of every list of which no call is refused as full, the register holds exactly what remains
  pub holds_what_remains : HoldsWhatRemains
  -- and its summaries and records, of which boards are drawn, are the lists of those that remain
  pub holds_in_order : HoldsInOrder
  -- none is refused as full exactly when each beginning leaves at most 96 different records and 256 different summaries
  pub full_exactly_when : FullExactlyWhen
  -- two lists of which the same remains, order and repeats aside, leave the same and show the same
  pub same_in_both_rooms : (north south : List Call) → none_full fresh north ≡ true → none_full fresh south ≡ true → SameRemains north south → SameInBothRooms north south
