-- The fixes of a register.
use Rattle.std.proofs.Common.{◌≡◌, true, List, ℕ, ◌≤◌, arith, length, take, drop}
use Rattle.octets.specs.Order.{same}
use Rattle.octets.specs.Words.{word_bytes}
use Rattle.record.specs.Layout.{record_size}
use Rattle.record.specs.Formed as R
use Rattle.lists.proofs.Bools.{and_left}
use Rattle.board_fixes.specs.Slots.{max_fixes}
use Rattle.board_fixes.specs.Fixes.{fixes_of}
use Rattle.fixes.specs.Items.{AllFormed, Apart}
use Rattle.board_fixes.proofs.Kept.{fixes-formed, fixes-apart, fixes-few}
use Rattle.signed_records.specs.Read.{record_formed}
use Rattle.signed_records.specs.Signed.{signers_in, place_formed}
use Rattle.tables.proofs.Testing.{all-weaken}
use Rattle.signed_records.proofs.Signatures.{place_held}
use Rattle.register.specs.Register.{Register}
use Rattle.register.proofs.Valid.{Valid}

pub record Standing (ss ps : List (List ℕ)) : Type 0 where
  pub formed : AllFormed (fixes_of ss ps)
  pub apart : Apart (fixes_of ss ps)
  pub few : length (fixes_of ss ps) ≤ max_fixes

held-formed : (c : ℕ) (p : List ℕ) → place_held c p ≡ true → record_formed p ≡ true
held-formed c p h = and_left (R.well_formed (take record_size p)) _ (and_left (place_formed c p) (same (word_bytes 4 (signers_in p)) (drop record_size p)) h)

pub standing : (s : Register) → Valid s → Standing s.summaries s.records
standing s v =
    let h = all-weaken (place_held s.convicted) record_formed (held-formed s.convicted) s.records v.records_held in
    let f = fixes-few s.summaries s.records h in
    let g = v.few_records in
    record { formed = fixes-formed s.summaries s.records h; apart = fixes-apart s.summaries s.records h; few = omega arith }
