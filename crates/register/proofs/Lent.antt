-- What a register lends to whoever reads it: its tables lie in its bytes, and each place of the second begins with a record.
use Rattle.std.proofs.Common.{ℕ, ◌*◌, ◌≤◌, ◌≡◌, true, List, arith, length, take}
use Rattle.std.specs.List.{list_all}
use Rattle.lists.proofs.Bools.{and_left}
use Rattle.record.specs.Layout.{record_size}
use Rattle.record.specs.Formed as R
use Rattle.models.specs.Summary.{summary_size}
use Rattle.signed_records.specs.Signed.{place_size, place_formed}
use Rattle.signed_records.specs.Read.{record_formed}
use Rattle.tables.proofs.Testing.{all-weaken}
use Rattle.register.specs.Layout.{max_records}
use Rattle.register.specs.Memory.{well_formed, convicted_in, summary_count, record_count, summary_table, record_table, records_in, decode}
use Rattle.register.proofs.Opened.{opened, summary-bytes-length, record-bytes-length, records-length}

module _ (m : List ℕ) (w : well_formed m ≡ true) where
  pub summaries-lie : summary_count m * summary_size ≤ length (summary_table m)
  summaries-lie = let o = opened m w in let s = o.few_summaries in let x = summary-bytes-length m o in omega arith

  pub records-lie : record_count m * place_size ≤ length (record_table m)
  records-lie = let o = opened m w in let s = o.few_records in let x = record-bytes-length m o in omega arith

  pub places-read : list_all record_formed (records_in m) ≡ true
  places-read = let o = opened m w in all-weaken (place_formed (convicted_in m)) record_formed (λ p h. and_left (R.well_formed (take record_size p)) _ h) (records_in m) o.records_formed

  pub records-read : list_all record_formed (decode m).records ≡ true
  unfolding decode
  records-read = places-read

  pub records-few : length (decode m).records ≤ max_records
  unfolding decode
  records-few = let o = opened m w in rw (records-length m o) o.few_records
