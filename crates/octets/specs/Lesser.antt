-- Which of two lent slices is handed back: the one whose bytes come first.
-- Source: docs/REFERENCE.md, 'Words', and 'Register and board', step 1.
use Rattle.std.specs.Prelude.{ℕ, cond, List}
use Rattle.octets.specs.Order.{is_before}

-- the one that comes first
abbrev pub lesser_of : List ℕ → List ℕ → List ℕ
lesser_of a b = cond (is_before b a) b a
