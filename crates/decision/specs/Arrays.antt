-- A decision in arrays with counts, whose unused places are fixed: so it goes out.
-- Source: docs/REFERENCE.md, 'Answer of a decision'.
use Rattle.std.specs.Prelude.{List, ℕ}
use Rattle.decision.specs.declared.Refusal.{Refusal}

-- items by their places in the input, and how many they are
pub record Indices : Type 0 where
  pub list : List ℕ
  pub count : ℕ

-- refusals, and how many they are
pub record Refusals : Type 0 where
  pub list : List Refusal
  pub count : ℕ

-- the answer is 0, or 8 with nothing decided
pub record DecisionArrays : Type 0 where
  pub answer : ℕ
  pub ranked : Indices
  pub dominated : Indices
  pub refusals : Refusals
