-- Receivers that restart their tags, on every board: where no fix was sent for longer than a link, the transmissions before and after are what
-- they would be without each other. A fix was sent when the record that represents it says. The theorem is `bursts-on-boards` in proofs/Bursts.
-- Source: docs/REFERENCE.md, 'Register and board'.
use Rattle.std.specs.Prelude.{ℕ, ◌≡◌, true, List}
use Rattle.board_transmissions.specs.Bursts.{Pause, BurstsApart}
use Rattle.register.specs.Memory.{fresh}
use Rattle.register.specs.Calls.{Call, none_full}
use Rattle.board.specs.Shows.{fixes_over}

-- of every list of which no call is refused as full
abbrev pub BurstsOnBoards : Type 0
BurstsOnBoards = (cs : List Call) → none_full fresh cs ≡ true → (s : ℕ) → Pause s (fixes_over cs) → BurstsApart s (fixes_over cs)
