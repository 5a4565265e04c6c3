-- A register as it was when a record had room for 16 tags (record specs/Before), and what is claimed of it once it is carried over: it is a register, and shows the
-- fixes that it showed. The contract of `register_carried_over` names it; the proof is in proofs/Carried.
-- Source: docs/OPERATION.md, 'Carrying a register over'.
use Rattle.std.specs.Prelude.{ℕ, ◌≡◌, ◌+◌, ◌*◌, Bool, true, not, ◌&&◌, List, [], ◌++◌, leb, eqb, length, map, take, drop}
use Rattle.std.specs.Int.Bits.{bit_and}
use Rattle.std.specs.List.{list_all, filter}
use Rattle.octets.specs.Words.{word, word_at}
use Rattle.tables.specs.Places.{places, flat, is_table}
use Rattle.record.specs.Before as Before
use Rattle.models.specs.Summary.{summary_size}
use Rattle.models.specs.Limits.{max_summaries}
use Rattle.models.specs.Models.{all_agreed}
use Rattle.models.specs.Summaries.{summary_formed}
use Rattle.models.specs.Carried.{inputs_before, identity_before}
use Rattle.register.specs.Layout.{max_records, records_at}
use Rattle.register.specs.Memory as Now
use Rattle.fixes.specs.Fix.{Fix}
use Rattle.board_fixes.specs.Fixes.{fixes_of, enter_all}

-- ---- the register before: only the places of its records were shorter

abbrev pub place_size : ℕ
place_size = Before.record_size + 4

abbrev pub register_size : ℕ
register_size = records_at + max_records * place_size

abbrev pub record_in : List ℕ → List ℕ
record_in p = take Before.record_size p

abbrev pub signers_in : List ℕ → ℕ
signers_in p = word (drop Before.record_size p)

abbrev pub records_in : List ℕ → List (List ℕ)
records_in m = places place_size (Now.record_count m) (Now.record_table m)

abbrev pub place_formed : ℕ → List ℕ → Bool
place_formed c p = Before.well_formed (record_in p) && (not (eqb (signers_in p) 0) && eqb (bit_and (signers_in p) c) 0)

unfoldable pub well_formed : List ℕ → Bool
well_formed m =
    eqb (length m) register_size
    && (leb (Now.summary_count m) max_summaries
    && (leb (Now.record_count m) max_records
    && (is_table summary_size summary_size (Now.summary_count m) (Now.summary_table m)
    && (list_all (summary_formed (Now.convicted_in m)) (Now.summaries_in m)
    && (is_table Before.record_size place_size (Now.record_count m) (Now.record_table m)
    && list_all (place_formed (Now.convicted_in m)) (records_in m))))))

-- ---- carried over: each of the 96 places is widened, and all bytes before them stay

abbrev pub widened_place : List ℕ → List ℕ
widened_place p = Before.widened (record_in p) ++ drop Before.record_size p

unfoldable pub widened : List ℕ → List ℕ
widened m = take records_at m ++ flat (map widened_place (places place_size max_records (Now.record_table m)))

-- ---- the fixes that it showed

abbrev pub fix_before : List (List ℕ) → List ℕ → Fix
fix_before ss p = record {
  identity = identity_before ss (record_in p);
  record_bytes = record_in p;
  inputs = inputs_before ss (record_in p);
  signers = signers_in p;
}

abbrev pub counted_before : List (List ℕ) → List ℕ → Bool
counted_before ss p = all_agreed (word_at 2 Before.spec_at (record_in p)) (Before.models (record_in p)) ss

unfoldable pub fixes_before : List (List ℕ) → List (List ℕ) → List Fix
fixes_before ss ps = enter_all [] (map (fix_before ss) (filter (counted_before ss) ps))

-- ---- what is claimed

-- a fix whose record is widened
abbrev pub widened_fix : Fix → Fix
widened_fix f = record { identity = f.identity; record_bytes = Before.widened f.record_bytes; inputs = f.inputs; signers = f.signers }

-- it is a register, with the same convicted engines and summaries, and of each record the widened one with the same signers; and it shows the fixes that it showed:
-- the same identities in the same order, each with the record, the inputs and the signers that it had
pub record RegisterCarried (m : List ℕ) : Type 0 where
  pub formed : Now.well_formed (widened m) ≡ true
  pub convicted : (Now.decode (widened m)).convicted ≡ Now.convicted_in m
  pub summaries : (Now.decode (widened m)).summaries ≡ Now.summaries_in m
  pub records : (Now.decode (widened m)).records ≡ map widened_place (records_in m)
  pub fixes : fixes_of (Now.decode (widened m)).summaries (Now.decode (widened m)).records ≡ map widened_fix (fixes_before (Now.summaries_in m) (records_in m))

abbrev pub RegisterCarriedOver : Type 0
RegisterCarriedOver = (m : List ℕ) → well_formed m ≡ true → RegisterCarried m
