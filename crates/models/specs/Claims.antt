-- What is claimed of models, beside what each function promises. The contract of src/claims.rt names it; the proofs are in proofs/Waiting.
-- Source: docs/REFERENCE.md, 'Models and identity' and 'Answers'.
use Rattle.std.specs.Prelude.{ℕ, ◌≡◌, ◌↔◌, true, false, List, ◌∷◌, ◌++◌, Some, None}
use Rattle.std.specs.List.{list_any}
use Rattle.record.specs.Fields.{models}
use Rattle.models.specs.Models.{state_of, counts}
use Rattle.models.specs.Missing.{is_missing, first_missing}

-- the first of these models that has no summary
pub record FirstMissing (ps : List (List ℕ)) (ms : List ℕ) (m : ℕ) : Type 0 where
  pub before : List ℕ
  pub behind : List ℕ
  pub parts : ms ≡ before ++ (m ∷ behind)
  pub none_before : list_any (λ k. is_missing (state_of k ps)) before ≡ false
  pub missing : is_missing (state_of m ps) ≡ true

pub record WaitsExactlyWhere : Type 0 where
  -- a record waits for no model exactly where each that it cites has a summary
  pub none_missing : (ps : List (List ℕ)) (r : List ℕ) → (first_missing ps r ≡ None) ↔ (list_any (λ m. is_missing (state_of m ps)) (models r) ≡ false)
  -- it waits for the first model that it cites, in its order, of those that have no summary
  pub for_first : (ps : List (List ℕ)) (r : List ℕ) (m : ℕ) → first_missing ps r ≡ Some m → FirstMissing ps (models r) m
  -- one that counts waits for none
  pub counted : (ps : List (List ℕ)) (r : List ℕ) → counts ps r ≡ true → first_missing ps r ≡ None
