-- A fix, as a board and a track have it (docs/REFERENCE.md, 'Register and board', step 1, and 'Track and listing').
use Rattle.std.specs.Prelude.{ℕ, List}

pub record Fix : Type 0 where
  pub identity : List ℕ
  -- the bytes of the record that represents it
  pub record_bytes : List ℕ
  -- the model inputs of that record
  pub inputs : List ℕ
  -- the engines that signed a record of this identity, bit n for engine n
  pub signers : ℕ

abbrev pub with_signers : ℕ → Fix → Fix
with_signers engines f = record { identity = f.identity; record_bytes = f.record_bytes; inputs = f.inputs; signers = engines }
