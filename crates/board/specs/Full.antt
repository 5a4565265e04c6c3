-- The full board of a register as a value (docs/REFERENCE.md, 'Register and board').
use Rattle.std.specs.Prelude.{ℕ, List}
use Rattle.register.specs.Register.{Register}
use Rattle.board.specs.Board.{board_of}

-- the convicted set has no part in it
abbrev pub board_in : Register → List ℕ
board_in s = board_of s.summaries s.records
