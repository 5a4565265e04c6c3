-- Three items, S within M within L, of which only the ends disagree.
-- Source: docs/REFERENCE.md, 'Decision'.
use Rattle.std.specs.Prelude.{List, [], ◌∷◌, ◌++◌, ℕ, replicate}
use Rattle.octets.specs.Words.{word_bytes}
use Rattle.record.specs.Worked.{record_with}

-- an item: no model inputs, an identity, standing 0, consistent, not preferred, unjudged
abbrev pub item : List ℕ → ℕ → List ℕ
item r identity = r ++ replicate 32 0 ++ (identity ∷ replicate 31 0) ++ word_bytes 8 0 ++ (1 ∷ 0 ∷ 0 ∷ [])

abbrev pub S : List ℕ
S = record_with (1 ∷ []) 0

abbrev pub M : List ℕ
M = record_with (1 ∷ 2 ∷ []) 2700

abbrev pub L : List ℕ
L = record_with (1 ∷ 2 ∷ 3 ∷ []) 5400
