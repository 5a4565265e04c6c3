-- A whole board, what a crew sees of it, and a whole preview, worked out. The session program prints these lines for the same reports, for the preview with a conviction after them, and
-- so does the second writing of the board in plain Rust (oracle/peer). The contract of `boards_worked` names them; the proofs are in proofs/Worked.
-- Source: docs/REFERENCE.md, 'Text' and 'Preview'.
use Rattle.std.specs.Prelude.{◌≡◌, ℕ, List, [], ◌∷◌, ◌++◌}
use Rattle.octets.specs.Ascii.{ascii}
use Rattle.octets.specs.Words.{word_bytes}
use Rattle.record.specs.Worked.{record_with}
use Rattle.decision.specs.Positions.{S, M, L}
use Rattle.register.specs.Register.{Register, strike_engine}
use Rattle.board.specs.Board.{board_of, crew_board_of}
use Rattle.board.specs.Full.{board_in}

-- a record in its slot, with its signers
abbrev pub slot : List ℕ → ℕ → List ℕ
slot r signers = r ++ word_bytes 4 signers

-- S, M and L; another record of S's identity, which S represents; and a fix with another tag, of a lower identity. All are of one time.
abbrev pub slots : List (List ℕ)
slots = slot S 2 ∷ slot M 4 ∷ slot L 8 ∷ slot (record_with (1 ∷ []) 1) 16 ∷ slot (record_with (9 ∷ []) 7) 32 ∷ []

abbrev pub lines : List ℕ
lines =
    ascii "transmission=1 ranked=1 dominated=0 refused=0\n"
    ++ ascii "role=ranked time=1000 lat=7 lon=0 height=2 weight=1 signers=00000020\n"
    ++ ascii "transmission=2 ranked=1 dominated=1 refused=1\n"
    ++ ascii "role=ranked time=1000 lat=2700 lon=0 height=2 weight=2 signers=00000004\n"
    ++ ascii "role=dominated time=1000 lat=0 lon=0 height=2 weight=1 signers=00000012\n"
    ++ ascii "role=refused time=1000 lat=5400 lon=0 height=2 weight=3 signers=00000008 chi2=4041d3951c37e7a3\n"

-- what a crew sees of it
abbrev pub crew_lines : List ℕ
crew_lines =
    ascii "transmission=1\n"
    ++ ascii "role=ranked time=1000 lat=7 lon=0 height=2 weight=1 signers=00000020\n"
    ++ ascii "transmission=2\n"
    ++ ascii "role=ranked time=1000 lat=2700 lon=0 height=2 weight=2 signers=00000004\n"

-- A preview without engine 2, which alone signed M, and the other fix beside engine 5: M goes, and so does its signature. So the second writing of conviction and
-- board has it.
abbrev pub held : Register
held = record { convicted = 0; summaries = []; records = slot S 2 ∷ slot M 4 ∷ slot (record_with (9 ∷ []) 7) 36 ∷ [] }

abbrev pub lines_without : List ℕ
lines_without =
    ascii "transmission=1 ranked=1 dominated=0 refused=0\n"
    ++ ascii "role=ranked time=1000 lat=0 lon=0 height=2 weight=1 signers=00000002\n"
    ++ ascii "transmission=2 ranked=1 dominated=0 refused=0\n"
    ++ ascii "role=ranked time=1000 lat=7 lon=0 height=2 weight=1 signers=00000020\n"

pub record BoardsWorked : Type 0 where
  pub board : board_of [] slots ≡ lines
  pub crew : crew_board_of [] slots ≡ crew_lines
  pub preview : board_in (strike_engine 2 held) ≡ lines_without
