-- No claim rests on these definitions: they say what a conviction's loops leave of a table's bytes.
use Rattle.std.specs.Prelude.{ℕ, ◌*◌, ◌-◌, ◌≡◌, List, ◌++◌, length, replicate}
use Rattle.tables.specs.Places.{flat}

-- of the table t the places `kept` are left, n of them, and zeros after them
pub record Struck (w : ℕ) (kept : List (List ℕ)) (t : List ℕ) (n : ℕ) (t' : List ℕ) : Type 0 where
  pub count : n ≡ length kept
  pub bytes : t' ≡ flat kept ++ replicate (length t - n * w) 0
