-- No claim rests on these definitions: they say what the bytes of a table hold, and what a search in it answers.
use Rattle.std.specs.Prelude.{ℕ, ◌≡◌, ◌*◌, ◌^◌, ◌≤◌, ◌<◌, Bool, true, false, cond, leb, List, length, take, drop, Result, Ok, Err}
use Rattle.tables.specs.Places.{is_table, holds, put_place}
use Rattle.tables.specs.Positions.{rank}

-- the number of the place that has a key, or of the one before which it would go in
abbrev pub sought : ℕ → List ℕ → List (List ℕ) → Result ℕ ℕ
sought k key ps = cond (holds k key ps) (Ok (rank k key ps)) (Err (rank k key ps))

-- nothing was found, and every place is used
abbrev pub full : ℕ → ℕ → Result ℕ ℕ → Bool
full cap n (Ok i) = false
full cap n (Err i) = leb cap n

-- cap places of w bytes of which n are used, sorted by their first k bytes; the rest is zero
pub record Sorted (w k cap n : ℕ) (t : List ℕ) : Type 0 where
  pub width : 0 < w
  pub room : w < 2 ^ 63
  pub key : k ≤ w
  pub size : length t ≡ cap * w
  pub few : n ≤ cap
  pub table : is_table k w n t ≡ true

-- a place put in by its key, in the stead of the one that has it
abbrev pub put_in : ℕ → List ℕ → List (List ℕ) → List (List ℕ)
put_in k p ps = put_place k (λ v. drop k p) (take k p) ps
