-- What is claimed of what is said of two rooms. The contracts of src/claims.rt name it; the proofs are in proofs/Silent and proofs/Alike.
-- Source: docs/REFERENCE.md, 'Two rooms'.
use Rattle.std.specs.Prelude.{◌≡◌, ℕ, true, List, []}
use Rattle.octets.specs.Ascii.{ascii}
use Rattle.octets.specs.Bytes.{Bytes}
use Rattle.errors.specs.After.{after}
use Rattle.register.specs.Memory.{well_formed, decode}
use Rattle.register_join.specs.Join.{join_memory}
use Rattle.register_join.specs.Lacks.{lacking}
use Rattle.board.specs.Full.{board_in}
use Rattle.rooms_text.specs.declared.lines.Room.{Room}
use Rattle.rooms_text.specs.Lacking.{lacking_text}
use Rattle.rooms_text.specs.Boards.{boards_text}
use Rattle.rooms_text.specs.Compared.{is_equal}

-- nothing is said to be lacking in a room with the bytes m exactly where joining n changes nothing
pub record Silent (room : Room) (n m : List ℕ) : Type 0 where
  pub nothing_new : lacking_text room (lacking (decode n) (decode m)) ≡ [] → join_memory n m ≡ after 0 m
  pub nothing_said : join_memory n m ≡ after 0 m → lacking_text room (lacking (decode n) (decode m)) ≡ []

abbrev pub SilentExactlyWhere : Type 0
SilentExactlyWhere = (room : Room) (n m : List ℕ) → Bytes n → Bytes m → well_formed n ≡ true → well_formed m ≡ true → Silent room n m

-- where two registers are equal but for the convicted engines, it is said that their boards are equal
abbrev pub AlikeInBoth : Type 0
AlikeInBoth = (m n : List ℕ) → is_equal m n ≡ true → boards_text (board_in (decode m)) (board_in (decode n)) ≡ ascii "boards=equal\n"
