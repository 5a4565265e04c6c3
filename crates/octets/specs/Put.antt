-- A text in a buffer: the buffer is as before but for the text at its position, and the next position is the one after the text.
-- Source: docs/REFERENCE.md, 'Operations'.
use Rattle.std.specs.Prelude.{ℕ, ◌+◌, ◌≡◌, List, length}
use Rattle.std.proofs.lemmas.List.Edits.{sets}

-- A writer that was given the buffer l and a position left the buffer l' and answered the position r: it wrote t. `sets l at t` is l with the
-- elements of t stored one after another from `at` on; where t fits, that is `take at l ++ (t ++ drop (at + length t) l)` (put-whole, in proofs/Writing.antt).
pub record Put (l : List ℕ) (at : ℕ) (t : List ℕ) (r : ℕ) (l' : List ℕ) : Type 0 where
  pub next : r ≡ at + length t
  pub bytes : l' ≡ sets l at t
