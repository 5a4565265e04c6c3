-- No claim rests on these definitions: they say what the code does to a table of transmissions, each in its bytes.
use Rattle.std.specs.Prelude.{ℕ, ◌+◌, ◌*◌, ◌≤◌, ◌≡◌, Bool, length, get_or, take, drop}
use mathlib.Core.List.{List, [], ◌++◌, map, Memᴰ}
use Rattle.std.specs.List.{filter}
use Rattle.lists.specs.Lists.{sort, last_of}
use Rattle.tables.specs.Places.{places, flat, table_of}
use Rattle.track_transmission.specs.Layout.{transmission_size}
use Rattle.track_transmission.specs.Held.{HeldTransmission}
use Rattle.track_transmission.specs.Bytes.{transmission_in}
use Rattle.track_transmission.specs.Parts.{Steady}
use Rattle.track_arrange.specs.Arranged.{max_transmissions, has_fix, older_than}

-- the first n transmissions of a table
abbrev pub blocks : ℕ → List ℕ → List (List ℕ)
blocks n t = places transmission_size n t

-- the transmissions that they hold
abbrev pub held : ℕ → List ℕ → List HeldTransmission
held n t = map transmission_in (blocks n t)

-- the table of transmissions
abbrev pub block_table : List (List ℕ) → List ℕ
block_table bs = table_of transmission_size max_transmissions bs

abbrev pub has_fix_in : List ℕ → Bool
has_fix_in b = has_fix (transmission_in b)

abbrev pub older_block : List ℕ → List ℕ → Bool
older_block a b = older_than (transmission_in a) (transmission_in b)

unfoldable pub arranged_blocks : List (List ℕ) → List (List ℕ)
arranged_blocks bs = sort older_block (filter has_fix_in bs)

-- the latest eight of them
abbrev pub latest_blocks : List (List ℕ) → List (List ℕ)
latest_blocks bs = last_of max_transmissions (arranged_blocks bs)

abbrev pub AllSteady : List (List ℕ) → Type 0
AllSteady bs = (b : List ℕ) → Memᴰ b bs → Steady b

-- a table of n transmissions, and zeros behind them
pub record Filled (t : List ℕ) (n : ℕ) : Type 0 where
  pub few : n ≤ max_transmissions
  pub size : length t ≡ max_transmissions * transmission_size
  pub is : t ≡ block_table (blocks n t)
  pub steady : AllSteady (blocks n t)

-- ---- by their places

-- of transmissions that of a place
abbrev pub block_in : List (List ℕ) → ℕ → List ℕ
block_in bs k = get_or bs k []

-- of the n transmissions of a table and of further ones behind them
abbrev pub block_of : ℕ → List ℕ → List (List ℕ) → ℕ → List ℕ
block_of n t further k = block_in (blocks n t ++ further) k

-- a transmission put at place i of a table
abbrev pub put_block : ℕ → List ℕ → List ℕ → List ℕ
put_block i b t = take (i * transmission_size) t ++ (b ++ drop (i * transmission_size + transmission_size) t)

-- a table to whose front the transmissions of these places went, among n and further ones behind them
abbrev pub moved_table : ℕ → List (List ℕ) → List ℕ → List ℕ → List ℕ
moved_table n further order t = flat (map (block_of n t further) order) ++ drop (length order * transmission_size) t
