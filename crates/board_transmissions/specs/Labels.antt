-- No claim rests on these definitions: they say what the visits of a walk have written into the table of labels so far.
use Rattle.std.specs.Prelude.{Bool, cond, List, [], ◌∷◌, ℕ}

-- the labels l, with s in each place that has a mark in r and none in m
unfoldable pub relabel : ℕ → List Bool → List Bool → List ℕ → List ℕ
relabel s m r [] = []
relabel s [] r (x ∷ l) = x ∷ l
relabel s (a ∷ m) [] (x ∷ l) = x ∷ l
relabel s (a ∷ m) (b ∷ r) (x ∷ l) = cond a x (cond b s x) ∷ relabel s m r l
