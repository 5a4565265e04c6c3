-- What is claimed of values; src/claims.rt has a function whose contract each of these is.
-- Source: docs/REFERENCE.md, 'Values'.
use Rattle.std.specs.Prelude.{ℕ, ◌≡◌, ◌↔◌, true, false, List, length}
use Rattle.octets.specs.Bytes.{Bytes}
use Rattle.record.specs.Formed.{well_formed}
use Rattle.record.specs.Value.{Value, value_of}
use Rattle.record.specs.Fits.{Fits}
use Rattle.errors.specs.After.{after}
use Rattle.models.specs.Models.{counts}
use Rattle.register.specs.Memory as M
use Rattle.record_values.specs.Faults.{fault_number}
use Rattle.record_values.specs.Written.{has_room, write_record}
use Rattle.record_values.specs.Known.{write_inputs}

-- every record is written of what it says, which is answered 0
abbrev pub RecordsAreWritten : Type 0
RecordsAreWritten = (r found : List ℕ) → Bytes r → well_formed r ≡ true → write_record (value_of r) found ≡ after 0 r

-- 3 is answered exactly where no record says the value, and then the bytes stay
pub record RefusedExactlyWhere : Type 0 where
  -- of a value with numbers as wide as a record's
  pub exactly : (v : Value) (found : List ℕ) → Fits v → Bytes v.message
      → ((write_record v found).answer ≡ 3) ↔ ((r : List ℕ) → Bytes r → well_formed r ≡ true → value_of r ≡ v → ⊥)
  -- and of lists for which a record has no room
  pub no_room : (v : Value) (found : List ℕ) → length v.covariance ≡ 6 → has_room v ≡ false → write_record v found ≡ after 3 found
  pub stays : (v : Value) (found : List ℕ) → (write_record v found).answer ≡ 3 → (write_record v found).left ≡ found

-- model inputs are had of a record exactly where it counts on a board
abbrev pub HadWhereCounted : Type 0
HadWhereCounted =
    (m r found : List ℕ) → M.well_formed m ≡ true → well_formed r ≡ true
    → ((write_inputs m r found).answer ≡ 0) ↔ (counts (M.decode m).summaries r ≡ true)

-- bytes fail no check exactly where they are a record
abbrev pub NoFaultExactlyWhen : Type 0
NoFaultExactlyWhen = (r : List ℕ) → (fault_number r ≡ 0) ↔ (well_formed r ≡ true)
