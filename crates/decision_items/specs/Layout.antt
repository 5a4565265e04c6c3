-- The layout of an item of a decision (docs/REFERENCE.md, 'Item of a decision'): a record, model inputs, an identity, standing, and three flags, each field from the one
-- before it. Other crates cite these names and no number of their own.
use Rattle.std.specs.Prelude.{ℕ, ◌+◌}
use Rattle.record.specs.Layout.{record_size}

-- the most items that are decided at once
abbrev pub max_items : ℕ
max_items = 96

-- the bytes of model inputs, and of an identity
abbrev pub hash_size : ℕ
hash_size = 32

abbrev pub item_inputs_at : ℕ
item_inputs_at = record_size

abbrev pub item_identity_at : ℕ
item_identity_at = item_inputs_at + hash_size

abbrev pub standing_at : ℕ
standing_at = item_identity_at + hash_size

abbrev pub consistent_at : ℕ
consistent_at = standing_at + 8

abbrev pub preferred_at : ℕ
preferred_at = consistent_at + 1

abbrev pub verified_at : ℕ
verified_at = preferred_at + 1

abbrev pub item_size : ℕ
item_size = verified_at + 1
