-- Byte order: two strings are compared by their first differing byte. Where one string is the beginning of the other,
-- the shorter comes first.
-- Source: docs/REFERENCE.md, 'Words'.
use Rattle.std.specs.Prelude.{ℕ, Bool, true, false, cond, not, ◌&&◌, List, [], ◌∷◌, ltb}

-- the first comes before the second, strictly
unfoldable pub is_before : List ℕ → List ℕ → Bool
is_before a [] = false
is_before [] (y ∷ b) = true
is_before (x ∷ a) (y ∷ b) = cond (ltb x y) true (cond (ltb y x) false (is_before a b))

-- neither comes before the other
unfoldable pub same : List ℕ → List ℕ → Bool
same a b = not (is_before a b) && not (is_before b a)
