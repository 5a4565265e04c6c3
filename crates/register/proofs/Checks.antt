-- The refusals of each call in their order, what a refusal leaves, and that a desk that may not convict convicts nobody.
use Rattle.std.proofs.Common.{ℕ, ◌≡◌, refl, ◌∙◌, Bool, true, false, cond, not, ◌&&◌, ◌||◌, List, arith, ltb, leb, eqb, length, lt-ltb}
use Rattle.lists.proofs.Bools.{by}
use Rattle.octets.specs.Masks.{bit}
use Rattle.tables.specs.Places.{holds}
use Rattle.record.specs.Layout.{record_size, max_model}
use Rattle.record.specs.Formed as R
use Rattle.models.specs.Summary.{summary_size, inputs_size, summary_of}
use Rattle.models.specs.Limits.{max_summaries}
use Rattle.errors.specs.After.{After, after}
use Rattle.desks.specs.Desks.{may_convict, has_right}
use Rattle.desks.proofs.Rights.{each-number, at-no-desk, without-the-right, either-way}
use Rattle.engines.specs.Limits.{max_engine}
use Rattle.register.specs.Layout.{max_records}
use Rattle.register.specs.Register.{Register, take_report, take_summary, take_conviction, strike_engine}
use Rattle.register.specs.Memory.{well_formed, decode, encode, commit, on_memory}
use Rattle.register.specs.Calls.{Call, report, summary, conviction, called}
use Rattle.register.specs.Checks.{RefusalLeaves, MalformedLeaves, LeavesRegister, with_signed, with_summary, ReportInOrder, SummaryInOrder, ConvictionInOrder, OthersConvictNobody}
use Rattle.register.proofs.Kept.{refusal-leaves, still_formed}

-- ---- what a call leaves

pub call-refused : RefusalLeaves
call-refused (report e r) m h = refusal-leaves (take_report e r) m h
call-refused (summary e model spec inputs) m h = refusal-leaves (take_summary e model spec inputs) m h
call-refused (conviction d e) m h =
    either-way may_convict d m (on_memory (take_conviction e) m) (λ (a : After (List ℕ)). eqb a.answer 0 ≡ false → a.left ≡ m) (refusal-leaves (take_conviction e) m) (λ g. refl) (λ g. refl) h

on-malformed : (f : Register → After Register) (m : List ℕ) → well_formed m ≡ false → on_memory f m ≡ after 1 m
unfolding on_memory
on-malformed f m h = rw h refl

pub call-malformed : MalformedLeaves
call-malformed (report e r) m h = rw (on-malformed (take_report e r) m h) (refl, refl)
call-malformed (summary e model spec inputs) m h = rw (on-malformed (take_summary e model spec inputs) m h) (refl, refl)
call-malformed (conviction d e) m h =
    either-way may_convict d m (on_memory (take_conviction e) m) (λ (a : After (List ℕ)). (eqb a.answer 0 ≡ false) × (a.left ≡ m))
    (rw (on-malformed (take_conviction e) m h) (refl, refl)) (refl, refl) (refl, refl)

pub call-leaves : LeavesRegister
call-leaves = still_formed

-- ---- the order of checks

-- tests one after another, each of which refuses
module _ (m : List ℕ) (s t : Register) where
  in-order : (w a b c d : Bool) (k : ℕ)
      → cond w (commit m (cond a (after 2 s) (cond b (after k s) (cond c (after 4 s) (cond d (after 5 s) (after 0 t)))))) (after 1 m)
      ≡ cond (not w) (after 1 m) (cond a (after 2 m) (cond b (commit m (after k s)) (cond c (after 4 m) (cond d (after 5 m) (after 0 (encode t))))))
  in-order false a b c d k = refl
  in-order true true b c d k = refl
  in-order true false true c d k = refl
  in-order true false false true d k = refl
  in-order true false false false true k = refl
  in-order true false false false false k = refl

pub report-in-order : ReportInOrder
unfolding on_memory
report-in-order e r m =
    let s = decode m in
    in-order m s (with_signed e r s) (well_formed m) (ltb max_engine e) (not (R.well_formed r)) (bit s.convicted e) (not (holds record_size r s.records) && leb max_records (length s.records)) 3

pub summary-in-order : SummaryInOrder
unfolding on_memory
summary-in-order e model spec inputs m =
    let s = decode m in
    let p = summary_of e model spec inputs in
    in-order m s (with_summary p s) (well_formed m) (ltb max_engine e) (ltb max_model model || not (eqb (length inputs) inputs_size)) (bit s.convicted e)
    (not (holds summary_size p s.summaries) && leb max_summaries (length s.summaries)) 9

-- by a manager
by-manager : (e : ℕ) (m : List ℕ)
    → on_memory (take_conviction e) m
    ≡ cond (not (well_formed m)) (after 1 m) (cond (ltb max_engine e) (after 2 m) (after 0 (encode (strike_engine e (decode m)))))
unfolding on_memory
by-manager e m = by (well_formed m) (λ w. by (ltb max_engine e) (λ g. rw (w, g) refl) (λ g. rw (w, g) refl)) (λ w. rw w refl)

pub conviction-in-order : ConvictionInOrder
conviction-in-order desk e m =
    each-number
    (λ (n : ℕ). called (conviction n e) m
    ≡ cond (ltb 2 n) (after 15 m)
    (cond (ltb n 2) (after 16 m)
    (cond (not (well_formed m)) (after 1 m)
    (cond (ltb max_engine e) (after 2 m)
    (after 0 (encode (strike_engine e (decode m))))))))
    refl refl (by-manager e m)
    (λ n over none. at-no-desk n m _ none ∙ rw (lt-ltb 2 n over) refl)
    desk

-- only 2 has the right
lacking : (desk : ℕ) → eqb desk 2 ≡ false → has_right may_convict desk ≡ false
unfolding has_right
lacking desk h = grind arith

pub others-convict-nobody : OthersConvictNobody
others-convict-nobody desk e h =
    let n = lacking desk h in
    record {
      malformed = rw n refl;
      convicts_nobody = λ k. rw n refl;
      leaves = λ m. (without-the-right may_convict desk m (on_memory (take_conviction e) m) n).unchanged;
    }
