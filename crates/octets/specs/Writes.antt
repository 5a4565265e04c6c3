-- What writing a number leaves of bytes.
-- Source: docs/REFERENCE.md, 'Words'.
use Rattle.std.specs.Prelude.{ℕ, ◌+◌, List, ◌++◌, take, drop}
use Rattle.octets.specs.Words.{word_bytes}

-- s with the n lowest bytes of x at a place, in the place of what stood there
abbrev pub put_word : ℕ → ℕ → ℕ → List ℕ → List ℕ
put_word n at x s = take at s ++ (word_bytes n x ++ drop (at + n) s)
