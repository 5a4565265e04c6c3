-- The layout of a transmission in a track (docs/REFERENCE.md, 'Layouts'): how many fixes stand (1 to 5), how many are refused (0 to 4), places for 5 fixes of 324
-- bytes (record, signers, the model inputs that it was checked under), places for 4 refused of 364 (a fix, the identity that is kept, the chi-square of the two).
-- Each part begins where the one before it ends.
use Rattle.std.specs.Prelude.{ℕ, ◌+◌, ◌*◌}
use Rattle.record.specs.Layout.{record_size}
use Rattle.decision_items.specs.Layout.{hash_size}

-- ---- limits

-- the Rust's ALTERNATIVES: how many fixes a transmission keeps beside the best, and how many refused
abbrev pub alternatives : ℕ
alternatives = 4

abbrev pub max_standing : ℕ
max_standing = alternatives + 1

abbrev pub max_refused : ℕ
max_refused = alternatives

-- ---- a fix

abbrev pub signers_at : ℕ
signers_at = record_size

abbrev pub inputs_at : ℕ
inputs_at = signers_at + 4

abbrev pub fix_size : ℕ
fix_size = inputs_at + hash_size

-- ---- a refused fix

abbrev pub against_at : ℕ
against_at = fix_size

abbrev pub chi2_at : ℕ
chi2_at = against_at + hash_size

abbrev pub refused_size : ℕ
refused_size = chi2_at + 8

-- ---- a transmission

abbrev pub fix_count_at : ℕ
fix_count_at = 0

abbrev pub refused_count_at : ℕ
refused_count_at = fix_count_at + 1

abbrev pub fixes_at : ℕ
fixes_at = refused_count_at + 1

abbrev pub fixes_size : ℕ
fixes_size = max_standing * fix_size

abbrev pub refused_at : ℕ
refused_at = fixes_at + fixes_size

abbrev pub refused_table_size : ℕ
refused_table_size = max_refused * refused_size

abbrev pub transmission_size : ℕ
transmission_size = refused_at + refused_table_size
