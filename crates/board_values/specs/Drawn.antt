-- No claim rests on these definitions: they say what the code writes of a picture, line by line.
use Rattle.std.specs.Prelude.{ℕ, suc, ◌+◌, List, [], ◌∷◌, ◌++◌, map, flat_map}
use Rattle.lists.specs.Lists.{sort}
use Rattle.fixes.specs.Fix.{Fix}
use Rattle.fixes.specs.Shown.{Transmission, shown}
use Rattle.board_transmissions.specs.Transmissions.{transmissions_of}
use Rattle.board_picture.specs.Picture.{older_than, latest_of}
use Rattle.board_picture.specs.Lines.{ShownLine, ShownPart, all_counted}
use Rattle.board_values.specs.Entries.{Entry, entry, entries_from}
use Rattle.board_values.specs.Written.{entry_bytes}

-- the fixes of lines
abbrev pub fixes_on : List ShownLine → List Fix
fixes_on ls = map (λ (l : ShownLine). l.fix) ls

-- the entry of one of the lines ls
abbrev pub line_entry : List (List ℕ) → ℕ → ℕ → List ShownLine → ShownLine → Entry
line_entry ps number before ls l = entry ps number before (fixes_on ls) l.standing l.fix l.against

abbrev pub part_bytes : List (List ℕ) → ℕ → ℕ → ShownPart → List ℕ
part_bytes ps number before p = flat_map (λ (l : ShownLine). entry_bytes (line_entry ps number before p.lines l)) p.lines

-- of transmissions, the first with this number
unfoldable pub parts_bytes : List (List ℕ) → ℕ → ℕ → List ShownPart → List ℕ
parts_bytes ps number before [] = []
parts_bytes ps number before (p ∷ qs) = part_bytes ps number before p ++ parts_bytes ps (suc number) (before + all_counted p.counts) qs

-- the latest of these fixes
abbrev pub latest_over : List Fix → List Transmission
latest_over fs = latest_of (sort older_than (map shown (transmissions_of fs)))

-- the bytes of their entries
abbrev pub fixes_over : List (List ℕ) → List Fix → List ℕ
fixes_over ps fs = flat_map entry_bytes (entries_from ps 1 0 (latest_over fs))
