-- Which of two fixes is older, and which of two transmissions (docs/REFERENCE.md, 'Register and board' and 'Track and listing'): by time and
-- then identity, of transmissions that of the first ranked.
use Rattle.std.specs.Prelude.{ℕ, Bool, true, false, cond, List, [], ◌∷◌, ltb}
use Rattle.record.specs.Fields.{time}
use Rattle.fixes.specs.Fix.{Fix}
use Rattle.fixes.specs.Shown.{lower}

abbrev pub time_of : Fix → ℕ
time_of f = time f.record_bytes

-- f is older than g: by time, then by identity
abbrev pub older : Fix → Fix → Bool
older f g = cond (ltb (time_of f) (time_of g)) true (cond (ltb (time_of g) (time_of f)) false (lower f g))

-- the first of one list is older than the first of the other; a transmission always has a ranked fix
abbrev pub older_first : List Fix → List Fix → Bool
older_first [] gs = true
older_first (f ∷ fs) [] = false
older_first (f ∷ fs) (g ∷ gs) = older f g
