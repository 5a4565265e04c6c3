-- What is claimed of a record that was one when there was room for 16 tags, once it is widened. The contract of `carried_over` names it; the proofs are in
-- proofs/Carried.
-- Source: docs/OPERATION.md, 'Carrying a register over'.
use Rattle.std.specs.Prelude.{ℕ, ◌≡◌, true, List, length}
use Rattle.octets.specs.Order.{is_before}
use Rattle.record.specs.Before as Before
use Rattle.record.specs.Fields.{weight}
use Rattle.record.specs.Formed.{well_formed}
use Rattle.record.specs.Value.{value_of}

-- it is a record, says the same, has the same weight, and stands before or behind another as it did
pub record CarriedOver : Type 0 where
  pub valid : (r : List ℕ) → Before.well_formed r ≡ true → well_formed (Before.widened r) ≡ true
  pub value : (r : List ℕ) → Before.well_formed r ≡ true → value_of (Before.widened r) ≡ Before.value_of r
  pub weight : (r : List ℕ) → Before.well_formed r ≡ true → weight (Before.widened r) ≡ Before.weight r
  pub order : (a b : List ℕ) → length a ≡ Before.record_size → length b ≡ Before.record_size → is_before (Before.widened a) (Before.widened b) ≡ is_before a b
