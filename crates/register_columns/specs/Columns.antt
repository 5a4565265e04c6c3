-- A register turned for an archive, and turned back: its places are the rows, in use or not, well-formed or not; what is before them stays.
-- Source: docs/REFERENCE.md, 'Columns of a register'.
use Rattle.std.specs.Prelude.{cond, ◌&&◌, ◌++◌, ℕ, List, eqb, length, take, drop}
use Rattle.errors.specs.After.{After, after}
use Rattle.signed_records.specs.Signed.{place_size}
use Rattle.register.specs.Layout.{max_records, records_at, register_size}
use Rattle.register_columns.specs.Transposed.{transposed}

-- what is behind the head, as so many rows of that width
abbrev pub turned : ℕ → ℕ → List ℕ → List ℕ
turned rows width s = take records_at s ++ transposed rows width (drop records_at s)

abbrev pub columns : List ℕ → List ℕ
columns s = turned max_records place_size s

abbrev pub uncolumns : List ℕ → List ℕ
uncolumns s = turned place_size max_records s

-- what is answered, and what the output holds then: 17, and the bytes that were found, where either has not the length of a register
abbrev pub rearrange : (List ℕ → List ℕ) → List ℕ → List ℕ → After (List ℕ)
rearrange f s found = cond (eqb (length s) register_size && eqb (length found) register_size) (after 0 (f s)) (after 17 found)
