-- What a record is known by: its identity, of model inputs that are given, and its model inputs in a register.
-- Source: docs/REFERENCE.md, 'Values' and 'Models and identity'.
use Rattle.std.specs.Prelude.{ℕ, cond, List, Option, Some, None}
use Rattle.errors.specs.After.{After, after}
use Rattle.record.specs.Formed.{well_formed}
use Rattle.models.specs.Missing.{first_missing}
use Rattle.models.specs.Identity.{cited, set_hash, identity_from}
use Rattle.register.specs.Memory as M

-- 3 where the bytes are no record
abbrev pub write_identity : List ℕ → List ℕ → List ℕ → After (List ℕ)
write_identity r inputs found = cond (well_formed r) (after 0 (identity_from (set_hash r) inputs)) (after 3 found)

-- 24 where a model has no summary; else 7 where one is disputed or of another spec; else the model inputs
abbrev pub inputs_unless_missing : Option ℕ → Option (List ℕ) → List ℕ → After (List ℕ)
inputs_unless_missing (Some model) inputs found = after 24 found
inputs_unless_missing None None found = after 7 found
inputs_unless_missing None (Some inputs) found = after 0 inputs

-- of a record, by these summaries
abbrev pub inputs_among : List (List ℕ) → List ℕ → List ℕ → After (List ℕ)
inputs_among ps r found = inputs_unless_missing (first_missing ps r) (cited ps r) found

-- 1 where the bytes are no register, 3 where they are no record, in this order
abbrev pub write_inputs : List ℕ → List ℕ → List ℕ → After (List ℕ)
write_inputs m r found = cond (M.well_formed m) (cond (well_formed r) (inputs_among (M.decode m).summaries r found) (after 3 found)) (after 1 found)
