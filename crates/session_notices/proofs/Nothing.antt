-- Nothing is said exactly where each call is answered 0.
use Rattle.std.proofs.Common.{◌≡◌, ◌∙◌, ap, refl, ℕ, ◌+◌, ◌<◌, false, List, [], ◌∷◌, ◌++◌, length, length-append, arith, ◌==◌}
use Rattle.lists.proofs.Bools.{by}
use Rattle.octets.specs.Ascii.{ascii}
use Rattle.register.specs.Calls.{called}
use Rattle.register.specs.Memory.{fresh}
use Rattle.session_notices.specs.Notices.{lines_of, notice, notices, all_done}
use Rattle.session_notices.specs.Told.{ending_by, ending_of}
use Rattle.session_notices.specs.Claims.{NothingSaid, DoneExactlyWhen}

notice-long : (number line answer : ℕ) → 0 < length (notice number line answer)
unfolding notice ascii
notice-long number line answer = simp length-append (omega arith)

positive : (n : ℕ) → 0 < n → (n == 0) ≡ false
positive n h = grind arith

-- a text behind one that is not empty
some-before : (t u : List ℕ) → 0 < length t → (length (t ++ u) == 0) ≡ false
some-before t u h = positive (length (t ++ u)) (omega (arith, length-append t u))

pub nothing-said : NothingSaid
unfolding notices all_done
nothing-said number line m [] = refl
nothing-said number line m (c ∷ cs) =
    let next = nothing-said (number + 1) (line + lines_of c) (called c m).left cs in
    by ((called c m).answer == 0)
    (λ h. rw (h, next) refl)
    (λ h. rw h (some-before (notice number line (called c m).answer) _ (notice-long number line (called c m).answer)))

pub done-exactly-when : DoneExactlyWhen
unfolding ending_of
done-exactly-when s cs e = ap ending_by e ∙ rw (nothing-said 1 1 fresh cs) refl
