-- How short a board can be that is not empty: a header and a ranked line, with one digit for each number.
-- Source: docs/REFERENCE.md, 'Operations' and 'Text'.
use Rattle.std.specs.Prelude.{ℕ, ◌+◌, ◌≤◌, ◌≡◌, ◌⊎◌, true, List, length}
use Rattle.octets.specs.Bytes.{Bytes}
use Rattle.register.specs.Memory.{well_formed, decode}
use Rattle.desks.specs.declared.Desk.{Desk}
use Rattle.desks.specs.declared.Desk.TheVariants.{Crew, Analyst, Manager}
use Rattle.board.specs.Board.{board_seen}

-- the bytes of `transmission=1 ranked=1 dominated=0 refused=0` and of `role=ranked time=0 lat=0 lon=0 height=0 weight=1 signers=00000001`, each with its line feed
abbrev pub least_full : ℕ
least_full = 46 + 66

-- the bytes of `transmission=1`, and of the same line
abbrev pub least_of_a_crew : ℕ
least_of_a_crew = 15 + 66

abbrev pub least_length : Desk → ℕ
least_length Crew = least_of_a_crew
least_length Analyst = least_full
least_length Manager = least_full

-- a board is empty, or has so many bytes at least
abbrev pub NoneShorter : Type 0
NoneShorter = (desk : Desk) (m : List ℕ) → Bytes m → well_formed m ≡ true → (length (board_seen desk (decode m)) ≡ 0) ⊎ (least_length desk ≤ length (board_seen desk (decode m)))
