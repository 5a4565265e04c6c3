-- No claim rests on these definitions: they say how the code holds the state of RFC 7693, 3.2, as four rows of four words, a vector each. A lane has a word of each row.
use Rattle.std.specs.Prelude.{ℕ, List, [], ◌∷◌, ◌+◌, ◌%◌, slice_index_or}
use Rattle.hashing.specs.Blake2s.{nth}

-- row i
abbrev pub row : List (List ℕ) → ℕ → List ℕ
row v i = slice_index_or v i []

-- the four words of lane j
abbrev pub lane : ℕ → List (List ℕ) → List ℕ
lane j v = nth (row v 0) j ∷ nth (row v 1) j ∷ nth (row v 2) j ∷ nth (row v 3) j ∷ []

-- the state, row by row
abbrev pub state_of : List (List ℕ) → List ℕ
state_of v =
    nth (row v 0) 0 ∷ nth (row v 0) 1 ∷ nth (row v 0) 2 ∷ nth (row v 0) 3
    ∷ nth (row v 1) 0 ∷ nth (row v 1) 1 ∷ nth (row v 1) 2 ∷ nth (row v 1) 3
    ∷ nth (row v 2) 0 ∷ nth (row v 2) 1 ∷ nth (row v 2) 2 ∷ nth (row v 2) 3
    ∷ nth (row v 3) 0 ∷ nth (row v 3) 1 ∷ nth (row v 3) 2 ∷ nth (row v 3) 3 ∷ []

-- a row turned left by n places
abbrev pub left : ℕ → List ℕ → List ℕ
left n a = nth a n ∷ nth a ((n + 1) % 4) ∷ nth a ((n + 2) % 4) ∷ nth a ((n + 3) % 4) ∷ []
