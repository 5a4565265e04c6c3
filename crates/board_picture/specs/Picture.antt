-- What a register shows (docs/REFERENCE.md, 'Register and board'): of its transmissions the 8 latest, the oldest first, by time and then identity of the first ranked.
use Rattle.std.specs.Prelude.{ℕ, Bool, List, map}
use Rattle.lists.specs.Lists.{sort, last_of}
use Rattle.fixes.specs.Shown.{Transmission, shown}
use Rattle.fixes.specs.Ages.{older_first}
use Rattle.board_fixes.specs.Fixes.{fixes_of}
use Rattle.board_transmissions.specs.Transmissions.{transmissions_of}

-- t is older than u: by time, then by identity, of the first ranked of each
abbrev pub older_than : Transmission → Transmission → Bool
older_than t u = older_first t.ranked u.ranked

-- all transmissions of summaries and of records with their signers, the oldest first
unfoldable pub picture : List (List ℕ) → List (List ℕ) → List Transmission
picture ss ps = sort older_than (map shown (transmissions_of (fixes_of ss ps)))

-- the most transmissions on a board
abbrev pub max_shown : ℕ
max_shown = 8

-- the 8 latest
abbrev pub latest_of : List Transmission → List Transmission
latest_of ts = last_of max_shown ts
