-- No claim rests on these definitions: they say what a walk over links marks.
-- One mark for each of the 96 places says what the walk has reached.
use Rattle.std.specs.Prelude.{Bool, true, false, cond, List, [], ◌∷◌, ℕ, zero, suc, ◌+◌, set, replicate}
use Rattle.lists.specs.Tables.{marked}
use Rattle.board_fixes.specs.Slots.{max_fixes}

-- ---- the walk: who is reached has a mark

abbrev pub no_marks : List Bool
no_marks = replicate max_fixes false

-- the number of places without a mark
unfoldable pub unmarked : List Bool → ℕ
unmarked [] = 0
unmarked (b ∷ m) = cond b 0 1 + unmarked m

-- a visit v, in turn, of each of the k indices from j on that has no mark by then and at which g holds
unfoldable pub each : (ℕ → List Bool → List Bool) → (ℕ → Bool) → List Bool → ℕ → ℕ → List Bool
each v g m j zero = m
each v g m j (suc k) = each v g (cond (marked m j) m (cond (g j) (v j m) m)) (suc j) k

module _ (link : ℕ → ℕ → Bool) (n : ℕ) where
  -- i is marked, and what is linked to it and has no mark is visited; f is the number without a mark
  unfoldable pub visit : ℕ → ℕ → List Bool → List Bool
  visit zero i m = m
  visit (suc f) i m = each (visit f) (link i) (set m i true) 0 n
