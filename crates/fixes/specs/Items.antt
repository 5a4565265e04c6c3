-- What is asked of a list of fixes: that a decision can take each, and that no two have one identity.
-- Source: docs/REFERENCE.md, 'Register and board'.
use Rattle.std.specs.Prelude.{ℕ, ◌<◌, ◌≡◌, true, length, get_or}
use mathlib.Core.List.{List, [], Memᴰ}
use Rattle.record.specs.Formed.{well_formed}
use Rattle.decision_items.specs.Layout.{hash_size}
use Rattle.fixes.specs.Fix.{Fix}

-- a fix as a decision takes it
pub record Formed (f : Fix) : Type 0 where
  pub key : length f.identity ≡ hash_size
  pub form : well_formed f.record_bytes ≡ true
  pub cited : length f.inputs ≡ hash_size

abbrev pub AllFormed : List Fix → Type 0
AllFormed fs = (f : Fix) → Memᴰ f fs → Formed f

-- what an index past the end of a list gives: no law reads it
abbrev pub no_fix : Fix
no_fix = record { identity = []; record_bytes = []; inputs = []; signers = 0 }

abbrev pub fix_at : List Fix → ℕ → Fix
fix_at fs i = get_or fs i no_fix

-- no two fixes of a list have one identity
abbrev pub Apart : List Fix → Type 0
Apart fs = (i j : ℕ) → i < length fs → j < length fs → (fix_at fs i).identity ≡ (fix_at fs j).identity → i ≡ j
