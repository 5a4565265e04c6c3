-- How long a notice is at most.
use Rattle.std.proofs.Common.{ℕ, ◌≤◌, Bool, List, cond, length, length-append, arith, ◌==◌}
use Rattle.lists.proofs.Bools.{by}
use Rattle.octets.specs.Ascii.{ascii}
use Rattle.text.proofs.Readback.{decimal-width}
use Rattle.session_notices.specs.Notices.{reason_for, notice}

either : (b : Bool) (t u : List ℕ) (n : ℕ) → length t ≤ n → length u ≤ n → length (cond b t u) ≤ n
either b t u n p q = by b (λ h. rw h p) (λ h. rw h q)

reason-short : (answer : ℕ) → length (reason_for answer) ≤ 80
reason-short answer =
    either (answer == 2) _ _ 80 (omega arith) (either (answer == 3) _ _ 80 (omega arith) (either (answer == 4) _ _ 80 (omega arith)
    (either (answer == 5) _ _ 80 (omega arith) (either (answer == 9) _ _ 80 (omega arith) (omega arith)))))

pub notice-short : (number line answer : ℕ) → length (notice number line answer) ≤ 192
unfolding notice ascii
notice-short number line answer =
    let a = decimal-width number in
    let b = decimal-width line in
    let d = decimal-width answer in
    simp length-append (omega (arith, a, b, d, reason-short answer, length-append {A = ℕ}))
