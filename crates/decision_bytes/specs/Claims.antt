-- What is claimed of a decision's bytes: its lists have a place for each item, and each part stands where its offset says.
-- Source: docs/REFERENCE.md, 'Answer of a decision'.
use Rattle.std.specs.Prelude.{◌≡◌, List, ℕ, drop, length, take}
use Rattle.decision_items.specs.Layout.{max_items}
use Rattle.decision.specs.Arrays.{DecisionArrays}
use Rattle.decision_bytes.specs.Answer.{answer_bytes, indices_bytes, refusals_bytes}
use Rattle.decision_bytes.specs.Offsets.{answer_size, dominated_at, indices_size, ranked_at, refusals_at}

-- each list has a place for each item
pub record HasAllPlaces (d : DecisionArrays) : Type 0 where
  pub ranked : length d.ranked.list ≡ max_items
  pub dominated : length d.dominated.list ≡ max_items
  pub refusals : length d.refusals.list ≡ max_items

pub record PartsOf (d : DecisionArrays) : Type 0 where
  pub long : length (answer_bytes d) ≡ answer_size
  pub ranked : take indices_size (drop ranked_at (answer_bytes d)) ≡ indices_bytes d.ranked
  pub dominated : take indices_size (drop dominated_at (answer_bytes d)) ≡ indices_bytes d.dominated
  pub refusals : drop refusals_at (answer_bytes d) ≡ refusals_bytes d.refusals

-- so it is of what is decided of any bytes, bad ones too
abbrev pub PartsStand : (List ℕ → DecisionArrays) → Type 0
PartsStand decided = (s : List ℕ) → HasAllPlaces (decided s) × PartsOf (decided s)
