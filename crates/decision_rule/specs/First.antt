-- No claim rests on these definitions: they say which of some places a search for the foremost by an order has chosen, if there are any.
use Rattle.std.specs.Prelude.{ℕ, Bool, cond, List, [], ◌∷◌, Option, Some, None}
use Rattle.lists.specs.Lists.{foremost}

-- the foremost of what was chosen so far, if there is one, and of k
abbrev pub better : (ℕ → ℕ → Bool) → Option ℕ → ℕ → Option ℕ
better before None k = Some k
better before (Some b) k = Some (cond (before k b) k b)

abbrev pub foremost_of : (ℕ → ℕ → Bool) → List ℕ → Option ℕ
foremost_of before [] = None
foremost_of before (x ∷ l) = Some (foremost before x l)
