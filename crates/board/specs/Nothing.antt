-- When a board has no bytes: exactly where no record of the register counts (docs/REFERENCE.md, 'Register and board'), whether none was reported, none is held
-- any more or none may be shown; and so it is at every desk. The theorem is `no-bytes-exactly-when` in proofs/Nothing.
use Rattle.std.specs.Prelude.{ℕ, ◌≡◌, Bool, true, not, List, eqb, length}
use Rattle.std.specs.List.{list_any}
use Rattle.octets.specs.Bytes.{Bytes}
use Rattle.models.specs.Models.{counts}
use Rattle.board_fixes.specs.Fixes.{record_in}
use Rattle.register.specs.Register.{Register}
use Rattle.register.specs.Memory.{well_formed, decode}
use Rattle.desks.specs.declared.Desk.{Desk}
use Rattle.board.specs.Board.{board_seen}

-- some record counts
abbrev pub any_counts : Register → Bool
any_counts s = list_any (λ p. counts s.summaries (record_in p)) s.records

abbrev pub NoBytesExactlyWhen : Type 0
NoBytesExactlyWhen = (desk : Desk) (m : List ℕ) → Bytes m → well_formed m ≡ true → eqb (length (board_seen desk (decode m))) 0 ≡ not (any_counts (decode m))
