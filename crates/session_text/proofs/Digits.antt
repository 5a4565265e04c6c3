-- What a register answers a manager is a digit, so that the lines of a session's answers have one width.
use Rattle.std.proofs.Common.{ℕ, ◌≤◌, ◌≡◌, refl, sym, subst, Bool, true, not, ◌||◌, List, arith, ltb, eqb, eqb-true, length}
use Rattle.octets.specs.Masks.{bit}
use Rattle.lists.proofs.Bools.{by}
use Rattle.text.proofs.Shapes.{digits-one}
use Rattle.record.specs.Layout.{max_model}
use Rattle.record.specs.Formed as R
use Rattle.models.specs.Summary.{inputs_size}
use Rattle.octets.specs.Ascii.{ascii}
use Rattle.errors.specs.After.{After}
use Rattle.engines.specs.Limits.{max_engine}
use Rattle.desks.specs.declared.Desk.TheVariants.{Manager}
use Rattle.desks.specs.Desks.{number_of}
use Rattle.register.specs.Register.{Register}
use Rattle.register.specs.Memory.{well_formed, decode, on_memory}
use Rattle.register.specs.Calls.{Call, report, summary, conviction, called}
use Rattle.register.proofs.Acting.{act}
use Rattle.register.proofs.History.{Way, report-way, summary-way}
use Rattle.session_text.specs.Output.{answer_line}

-- the greatest answer of a register
abbrev pub max_answer : ℕ
max_answer = 9

-- the bytes of the line of an answer, which is one digit
abbrev pub answer_width : ℕ
answer_width = 9

-- whether a call finds its table full
abbrev full_in : {fit full free : Bool} {s done : Register} {a : After Register} → Way fit full free s done a → Bool
full_in {full = b} w = b

-- a call of a manager: one that has no desk, or a manager's conviction
abbrev pub by_manager : Call → Bool
by_manager (report e r) = true
by_manager (summary e model spec inputs) = true
by_manager (conviction d e) = eqb d (number_of Manager)

act-digit : (c : Call) (s : Register) → by_manager c ≡ true → (act c s).answer ≤ max_answer
act-digit (report e r) s x =
    by (ltb max_engine e) (λ h. rw h (omega arith))
    (λ h. by (not (R.well_formed r)) (λ k. rw (h, k) (omega arith))
    (λ k. by (bit s.convicted e) (λ b. rw (h, k, b) (omega arith)) (λ b. rw (h, k, b) (by (full_in (report-way s e r)) (λ f. rw f (omega arith)) (λ f. rw f (omega arith))))))
act-digit (summary e model spec inputs) s x =
    by (ltb max_engine e) (λ h. rw h (omega arith))
    (λ h. by (ltb max_model model || not (eqb (length inputs) inputs_size)) (λ k. rw (h, k) (omega arith))
    (λ k. by (bit s.convicted e) (λ b. rw (h, k, b) (omega arith)) (λ b. rw (h, k, b) (by (full_in (summary-way s e model spec inputs)) (λ f. rw f (omega arith)) (λ f. rw f (omega arith))))))
act-digit (conviction d e) s x =
    subst (λ (n : ℕ). (act (conviction n e) s).answer ≤ max_answer) (sym (eqb-true d (number_of Manager) x))
    (by (ltb max_engine e) (λ h. rw h (omega arith)) (λ h. rw h (omega arith)))

-- on bytes it is what it is on a register
managed : (c : Call) (m : List ℕ) → by_manager c ≡ true → called c m ≡ on_memory (act c) m
managed (report e r) m x = refl
managed (summary e model spec inputs) m x = refl
managed (conviction d e) m x = subst (λ (n : ℕ). called (conviction n e) m ≡ on_memory (act (conviction n e)) m) (sym (eqb-true d (number_of Manager) x)) refl

pub answer-digit : (c : Call) (m : List ℕ) → by_manager c ≡ true → (called c m).answer ≤ max_answer
unfolding on_memory
answer-digit c m x =
    rw (managed c m x)
    (by (well_formed m)
    (λ h. by (eqb (act c (decode m)).answer 0) (λ k. rw (h, k) (omega arith)) (λ k. rw (h, k) (act-digit c (decode m) x)))
    (λ h. rw h (omega arith)))

pub answer-width : (n : ℕ) → n ≤ max_answer → length (answer_line n) ≡ answer_width
unfolding answer_line ascii
answer-width n h = rw (digits-one 19 n (omega arith)) refl
