-- What is claimed of a register that is turned; src/claims.rt has a function whose contract each of these is.
-- Source: docs/REFERENCE.md, 'Columns of a register'.
use Rattle.std.specs.Prelude.{◌≡◌, ◌<◌, ◌+◌, ◌*◌, ◌&&◌, cond, not, ℕ, List, eqb, length, get_or}
use Rattle.errors.specs.After.{after}
use Rattle.signed_records.specs.Signed.{place_size}
use Rattle.register.specs.Layout.{max_records, records_at, register_size}
use Rattle.register_columns.specs.Columns.{columns, uncolumns, rearrange}

-- on any bytes of a register's length
abbrev pub UndoEachOther : Type 0
UndoEachOther = (s : List ℕ) → length s ≡ register_size → (uncolumns (columns s) ≡ s) × (columns (uncolumns s) ≡ s)

-- byte j of place i is byte i of column j
abbrev pub StandsTogether : Type 0
StandsTogether =
    (s : List ℕ) (i j : ℕ) → length s ≡ register_size → i < max_records → j < place_size
    → get_or (columns s) (records_at + (j * max_records + i)) 0 ≡ get_or s (records_at + (i * place_size + j)) 0

abbrev pub HeadStays : Type 0
HeadStays = (s : List ℕ) (k : ℕ) → length s ≡ register_size → k < records_at → get_or (columns s) k 0 ≡ get_or s k 0

-- 17 exactly where one of the two has another length, and the output is as it was found then; else what is written is answered 0
abbrev pub RefusedWhereOther : Type 0
RefusedWhereOther =
    (f : List ℕ → List ℕ) (s found : List ℕ)
    → rearrange f s found ≡ cond (not (eqb (length s) register_size && eqb (length found) register_size)) (after 17 found) (after 0 (f s))
