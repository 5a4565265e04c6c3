-- What is claimed of a preview (docs/REFERENCE.md, 'Preview'), on every memory that can be lent and after every list of calls. The theorems are in proofs/Previewed.
use Rattle.std.specs.Prelude.{ℕ, ◌≤◌, ◌<◌, ◌≡◌, ◌⊎◌, true, false, cond, not, List, [], ◌∷◌, ◌++◌, ltb, eqb, length}
use Rattle.octets.specs.Bytes.{Bytes}
use Rattle.octets.specs.Masks.{bit}
use Rattle.tables.specs.Places.{holds}
use Rattle.models.specs.Summary.{summary_size}
use Rattle.errors.specs.After.{after, write_text}
use Rattle.errors.specs.Errors.{greatest_refusal}
use Rattle.desks.specs.declared.Desk.{Desk}
use Rattle.desks.specs.declared.Desk.TheVariants.{Analyst, Manager}
use Rattle.desks.specs.Desks.{number_of}
use Rattle.desks.specs.Previewing.{may_preview}
use Rattle.engines.specs.Limits.{max_engine}
use Rattle.models.specs.Summaries.{is_of_another}
use Rattle.fix_lines.specs.Text.{board_size}
use Rattle.register.specs.Register.{Register, strike_engine}
use Rattle.register.specs.Memory.{well_formed, decode, fresh}
use Rattle.register.specs.Calls.{Call, conviction, runs, none_full}
use Rattle.register.specs.Claims.{signers_of, SameRemains}
use Rattle.board.specs.Board.{draw_board}
use Rattle.board.specs.Preview.{convict, draw_preview}
use Rattle.board.specs.Full.{board_in}
use Rattle.board.specs.Claims.{board_over}

-- ---- on any memory

-- refused for its desk, then as the conviction is, then as the board is: with 15, 16, 1, 2, 10, the first that holds; else the board of the register without the
-- engine. A desk is a number here: every one above 2 is none, and 0, a crew's, may not preview.
abbrev pub RefusedInOrder : Type 0
RefusedInOrder = (desk e : ℕ) (m : List ℕ) → Bytes m → (out : List ℕ)
    → draw_preview desk e m out
    ≡ cond (ltb 2 desk) (after 15 out)
    (cond (eqb desk 0) (after 16 out)
    (cond (not (well_formed m)) (after 1 out)
    (cond (ltb max_engine e) (after 2 out)
    (cond (ltb (length out) board_size) (after 10 out) (write_text (board_in (strike_engine e (decode m))) out)))))

-- the preview of an analyst is that of a manager, which is a manager's conviction and board on a copy
pub record AsManager (e : ℕ) (m out : List ℕ) : Type 0 where
  pub alike : draw_preview (number_of Analyst) e m out ≡ draw_preview (number_of Manager) e m out
  pub on_a_copy : draw_preview (number_of Manager) e m out ≡ cond (eqb (convict e m).answer 0) (draw_board (number_of Manager) (convict e m).left out) (after (convict e m).answer out)

abbrev pub AnalystAsManager : Type 0
AnalystAsManager = (e : ℕ) (m out : List ℕ) → AsManager e m out

-- what a desk previewed of an engine, and what is drawn for it once a manager has convicted the engine
pub record AsPreviewed (desk : Desk) (e : ℕ) (m : List ℕ) : Type 0 where
  -- one text, whatever is lent to the preview, if it is enough
  pub text : List ℕ
  pub previewed : (out : List ℕ) → board_size ≤ length out → draw_preview (number_of desk) e m out ≡ write_text text out
  -- the conviction is not refused, and whatever is lent to a board after it, if it is enough, gets this text
  pub done : (convict e m).answer ≡ 0
  pub drawn : (out : List ℕ) → board_size ≤ length out → draw_board (number_of desk) (convict e m).left out ≡ write_text text out
  -- of which the length can be no refusal's number
  pub no_refusal : (length text ≡ 0) ⊎ (greatest_refusal < length text)

-- of every desk that may preview, every engine and every register
abbrev pub ThenConvicted : Type 0
ThenConvicted = (desk : Desk) (e : ℕ) (m : List ℕ) → Bytes m → may_preview desk ≡ true → e ≤ max_engine → well_formed m ≡ true → AsPreviewed desk e m

-- the preview of an engine that is convicted is the present board, whatever is lent
abbrev pub ConvictedIsPresent : Type 0
ConvictedIsPresent = (desk : Desk) (e : ℕ) (m : List ℕ) → Bytes m → may_preview desk ≡ true → bit (decode m).convicted e ≡ true
    → (out : List ℕ) → draw_preview (number_of desk) e m out ≡ draw_board (number_of desk) m out

-- an engine of which a register holds nothing: no summary is its own, and it signed no record
pub record Idle (e : ℕ) (s : Register) : Type 0 where
  pub no_summary : (p : List ℕ) → holds summary_size p s.summaries ≡ true → is_of_another e p ≡ true
  pub no_signature : (r : List ℕ) → bit (signers_of r s) e ≡ false

-- nor does the preview of such an engine change anything
abbrev pub IdleIsPresent : Type 0
IdleIsPresent = (desk : Desk) (e : ℕ) (m : List ℕ) → Bytes m → may_preview desk ≡ true → e ≤ max_engine → Idle e (decode m)
    → (out : List ℕ) → draw_preview (number_of desk) e m out ≡ draw_board (number_of desk) m out

-- ---- after whole lists of calls

-- a list with a manager's conviction at its end
abbrev pub then_convict : List Call → ℕ → List Call
then_convict cs e = cs ++ (conviction (number_of Manager) e ∷ [])

-- the preview of an engine after a list is the board after that list with the conviction at its end: of every list, also one of which calls were refused,
-- and whatever is lent
abbrev pub ConvictionAtTheEnd : Type 0
ConvictionAtTheEnd = (desk : Desk) (cs : List Call) (e : ℕ) → may_preview desk ≡ true → e ≤ max_engine
    → (out : List ℕ) → draw_preview (number_of desk) e (runs fresh cs) out ≡ draw_board (number_of desk) (runs fresh (then_convict cs e)) out

-- two rooms get the same preview at a desk, the board over what remains of a list with the conviction at its end
pub record SamePreviews (desk : Desk) (north south : List Call) (e : ℕ) : Type 0 where
  pub previewed_north : (out : List ℕ) → board_size ≤ length out → draw_preview (number_of desk) e (runs fresh north) out ≡ write_text (board_over desk (then_convict north e)) out
  pub previewed_south : (out : List ℕ) → board_size ≤ length out → draw_preview (number_of desk) e (runs fresh south) out ≡ write_text (board_over desk (then_convict north e)) out

-- where the same remains of their lists, of which no call is refused as full
abbrev pub PreviewsInBothRooms : Type 0
PreviewsInBothRooms = (north south : List Call) → none_full fresh north ≡ true → none_full fresh south ≡ true → SameRemains north south
    → (desk : Desk) (e : ℕ) → may_preview desk ≡ true → e ≤ max_engine → SamePreviews desk north south e
