-- Runs of zeros: what a record or a table does not use is zero.
-- Source: docs/REFERENCE.md, 'Layouts'.
use Rattle.std.specs.Prelude.{ℕ, Bool, List, eqb}
use Rattle.std.specs.List.{list_all}

-- every byte is zero
unfoldable pub all_zero : List ℕ → Bool
all_zero s = list_all (λ b. eqb b 0) s
