-- What is claimed of each call on a register in memory: in which order it is refused, that a refusal leaves the bytes, that every call leaves a register, and that a
-- conviction by a desk that may not convict counts for nothing. A desk is a number here: 2 is a manager's, 1 and 0 may not convict, and every one above 2 is none. The
-- theorems are in proofs/Checks.
-- Source: docs/REFERENCE.md, 'Desks' and 'Operations'.
use Rattle.std.specs.Prelude.{ℕ, ◌≡◌, true, false, cond, not, ◌&&◌, ◌||◌, List, ltb, leb, eqb, length}
use Rattle.octets.specs.Bytes.{Bytes}
use Rattle.octets.specs.Masks.{bit}
use Rattle.tables.specs.Places.{holds, put_place}
use Rattle.record.specs.Layout.{record_size, max_model}
use Rattle.record.specs.Formed as R
use Rattle.models.specs.Summary.{summary_size, inputs_size, summary_of}
use Rattle.models.specs.Limits.{max_summaries}
use Rattle.models.specs.Summaries.{no_value}
use Rattle.signed_records.specs.Signed.{add_signer}
use Rattle.errors.specs.After.{after}
use Rattle.engines.specs.Limits.{max_engine}
use Rattle.register.specs.Layout.{max_records}
use Rattle.register.specs.Register.{Register, strike_engine}
use Rattle.register.specs.Memory.{well_formed, decode, encode}
use Rattle.register.specs.Calls.{Call, report, summary, conviction, called, is_sound, is_conviction_of}

-- ---- the bytes that a call leaves

-- a call that is refused leaves the bytes
abbrev pub RefusalLeaves : Type 0
RefusalLeaves = (c : Call) (m : List ℕ) → eqb (called c m).answer 0 ≡ false → (called c m).left ≡ m

-- and so does every call on bytes that are no register, which is refused
abbrev pub MalformedLeaves : Type 0
MalformedLeaves = (c : Call) (m : List ℕ) → well_formed m ≡ false → (eqb (called c m).answer 0 ≡ false) × ((called c m).left ≡ m)

-- every call on a register leaves a register
abbrev pub LeavesRegister : Type 0
LeavesRegister = (c : Call) (m : List ℕ) → Bytes m → well_formed m ≡ true → well_formed (called c m).left ≡ true

-- ---- the order of checks

-- a register with a record of a signer more
abbrev pub with_signed : ℕ → List ℕ → Register → Register
with_signed e r s = record { convicted = s.convicted; summaries = s.summaries; records = put_place record_size (add_signer e) r s.records }

-- and with a summary more
abbrev pub with_summary : List ℕ → Register → Register
with_summary p s = record { convicted = s.convicted; summaries = put_place summary_size no_value p s.summaries; records = s.records }

-- 1, 2, 3, 4, 5, the first that holds; else the record is stored with the engine as its signer
abbrev pub ReportInOrder : Type 0
ReportInOrder = (e : ℕ) (r m : List ℕ)
    → called (report e r) m
    ≡ cond (not (well_formed m)) (after 1 m)
    (cond (ltb max_engine e) (after 2 m)
    (cond (not (R.well_formed r)) (after 3 m)
    (cond (bit (decode m).convicted e) (after 4 m)
    (cond (not (holds record_size r (decode m).records) && leb max_records (length (decode m).records)) (after 5 m)
    (after 0 (encode (with_signed e r (decode m))))))))

-- 1, 2, 9, 4, 5, the first that holds; else the summary is stored
abbrev pub SummaryInOrder : Type 0
SummaryInOrder = (e model spec : ℕ) (inputs m : List ℕ)
    → called (summary e model spec inputs) m
    ≡ cond (not (well_formed m)) (after 1 m)
    (cond (ltb max_engine e) (after 2 m)
    (cond (ltb max_model model || not (eqb (length inputs) inputs_size)) (after 9 m)
    (cond (bit (decode m).convicted e) (after 4 m)
    (cond (not (holds summary_size (summary_of e model spec inputs) (decode m).summaries) && leb max_summaries (length (decode m).summaries)) (after 5 m)
    (after 0 (encode (with_summary (summary_of e model spec inputs) (decode m))))))))

-- 15, 16, 1, 2, the first that holds; else the engine is struck
abbrev pub ConvictionInOrder : Type 0
ConvictionInOrder = (desk e : ℕ) (m : List ℕ)
    → called (conviction desk e) m
    ≡ cond (ltb 2 desk) (after 15 m)
    (cond (ltb desk 2) (after 16 m)
    (cond (not (well_formed m)) (after 1 m)
    (cond (ltb max_engine e) (after 2 m)
    (after 0 (encode (strike_engine e (decode m)))))))

-- whatever its engine, it is malformed, convicts nobody and leaves the bytes
pub record CountsForNothing (desk e : ℕ) : Type 0 where
  pub malformed : is_sound (conviction desk e) ≡ false
  pub convicts_nobody : (k : ℕ) → is_conviction_of k (conviction desk e) ≡ false
  pub leaves : (m : List ℕ) → (called (conviction desk e) m).left ≡ m

abbrev pub OthersConvictNobody : Type 0
OthersConvictNobody = (desk e : ℕ) → eqb desk 2 ≡ false → CountsForNothing desk e
