-- How long the names are.
use Rattle.std.proofs.Common.{ℕ, ◌≤◌, ◌<◌, Bool, List, length, arith, cond, ◌==◌}
use Rattle.lists.proofs.Bools.{by}
use Rattle.toastlagoon_names.specs.Names.{name_of, name_size}
use Rattle.toastlagoon_names.specs.Claims.{NamesFit, NoNameIsEmpty}

-- a choice of two texts that are within bounds
either : (b : Bool) (t u : List ℕ) → (0 < length t) × (length t ≤ name_size) → (0 < length u) × (length u ≤ name_size) → (0 < length (cond b t u)) × (length (cond b t u) ≤ name_size)
either b t u p q = by b (λ h. rw h p) (λ h. rw h q)

within : (n : ℕ) → (0 < length (name_of n)) × (length (name_of n) ≤ name_size)
within n =
    either (n == 0) _ _ (omega arith, omega arith) (either (n == 1) _ _ (omega arith, omega arith) (either (n == 2) _ _ (omega arith, omega arith)
    (either (n == 3) _ _ (omega arith, omega arith) (either (n == 4) _ _ (omega arith, omega arith) (either (n == 5) _ _ (omega arith, omega arith)
    (either (n == 7) _ _ (omega arith, omega arith) (either (n == 8) _ _ (omega arith, omega arith)
    (either (n == 9) _ _ (omega arith, omega arith) (either (n == 10) _ _ (omega arith, omega arith)
    (either (n == 11) _ _ (omega arith, omega arith) (either (n == 12) _ _ (omega arith, omega arith) (either (n == 13) _ _ (omega arith, omega arith) (either (n == 14) _ _ (omega arith, omega arith) (either (n == 15) _ _ (omega arith, omega arith) (either (n == 16) _ _ (omega arith, omega arith)
    (either (n == 17) _ _ (omega arith, omega arith) (either (n == 20) _ _ (omega arith, omega arith)
    (either (n == 21) _ _ (omega arith, omega arith) (either (n == 22) _ _ (omega arith, omega arith) (either (n == 23) _ _ (omega arith, omega arith)
    (either (n == 24) _ _ (omega arith, omega arith) (omega arith, omega arith))))))))))))))))))))))

pub names-fit : NamesFit
names-fit n = (within n).1

pub no-name-is-empty : NoNameIsEmpty
no-name-is-empty n = (within n).0
