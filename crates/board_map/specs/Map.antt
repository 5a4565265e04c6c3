-- The map of a register (docs/REFERENCE.md, 'Operations' and 'Map'): the first ranked fixes of its board, as points.
use Rattle.std.specs.Prelude.{ℕ, cond, List, ltb, length}
use Rattle.errors.specs.After.{After, after, write_text}
use Rattle.board_picture.specs.Picture.{picture, latest_of}
use Rattle.register.specs.Register.{Register}
use Rattle.register.specs.Memory.{well_formed, decode}
use Rattle.board_map.specs.Points.{points_of}
use Rattle.board_map.specs.Text.{map_text}

-- what a caller lends at least: less is refused with 14
abbrev pub map_size : ℕ
map_size = 4096

-- the map of summaries and of records with their signers: of the latest that they show
unfoldable pub map_of : List (List ℕ) → List (List ℕ) → List ℕ
map_of ss ps = map_text (points_of (latest_of (picture ss ps)))

-- the map of a register: the convicted set has no part in it
abbrev pub map_in : Register → List ℕ
map_in s = map_of s.summaries s.records

-- 1 for bytes that are no register, then 14 for an output under 4,096 bytes; else the map is written
unfoldable pub draw_map : List ℕ → List ℕ → After (List ℕ)
draw_map m out = cond (well_formed m) (cond (ltb (length out) map_size) (after 14 out) (write_text (map_in (decode m)) out)) (after 1 out)
