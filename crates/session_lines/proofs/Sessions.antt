-- What a session says, and that nothing else reads sessions so.
use Rattle.std.proofs.Common.{◌≡◌, ◌∙◌, sym, ap, refl, ℕ, zero, suc, ◌≤◌, ◌<◌, ltb, eqb, cond, List, [], ◌∷◌, length, Result, Ok, Err, arith, ltb-true, ltb-false}
use Rattle.lists.proofs.Bools.{by}
use Rattle.register.specs.Calls.{Call}
use Rattle.session_lines.specs.declared.lines.BadLine.{BadLine}
use Rattle.session_lines.specs.Lines.{At, Reading, ◌>>=◌}
use Rattle.session_lines.specs.Operations.{operation_at}
use Rattle.session_lines.specs.Session.{at_start, operations_at, session_at}
use Rattle.session_lines.specs.Claims.{and_then, ReadsSessions, SessionsRead, NoOtherReading, OthersHaveCalls, some_operations, OnlyEmptyMoved}
use Rattle.session_lines.proofs.Forward.{Below, operation_below, left_less, nothing_left, one_more, later, session-empty, session-here, session-step}

pub sessions-read : SessionsRead
sessions-read = record { empty = session-empty; bad_operation = session-here; good_operation = session-step }

-- ---- nothing else reads sessions so

module _ (read : At → Result (List Call) BadLine) (w : ReadsSessions read) where
  -- by what the first operation was read as, where shorter sessions are read alike
  first_alike : (s : At) → 0 < length s.rest → (m : Reading Call) → operation_at s ≡ m
      → ((c : Call) (r : At) → operation_at s ≡ Ok (c, r) → read r ≡ session_at r) → read s ≡ session_at s
  first_alike s h (Err e) q f = w.bad_operation s e h q ∙ sym (session-here s e h q)
  first_alike s h (Ok c) q f = w.good_operation s c.0 c.1 q ∙ ap (and_then c.0) (f c.0 c.1 q) ∙ sym (session-step s c.0 c.1 q)

  none_alike : (s : At) → length s.rest ≡ 0 → read s ≡ session_at s
  none_alike s h = w.empty s h ∙ sym (session-empty s h)

  up_to : (k : ℕ) (s : At) → length s.rest ≤ k → read s ≡ session_at s
  up_to zero s h = none_alike s (omega arith)
  up_to (suc k) s h =
      by (ltb 0 (length s.rest))
      (λ q. first_alike s (ltb-true 0 (length s.rest) q) (operation_at s) refl λ c r e. let l = left_less s c r e in up_to k r (omega arith))
      (λ q. let z = ltb-false 0 (length s.rest) q in none_alike s (omega arith))

pub no-other-reading : NoOtherReading
no-other-reading read w s = up_to read w (length s.rest) s (omega arith)

-- ---- the empty file

some-call : (c : Call) (m : Result (List Call) BadLine) → and_then c m ≡ Ok [] → ⊥
some-call c (Err e) h = grind arith
some-call c (Ok cs) h = grind arith

begun : (s : At) → 0 < length s.rest → (m : Reading Call) → operation_at s ≡ m → session_at s ≡ Ok [] → ⊥
begun s h (Err e) q k = grind (arith, session-here s e h q)
begun s h (Ok c) q k = some-call c.0 (session_at c.1) (sym (session-step s c.0 c.1 q) ∙ k)

pub others-have-calls : OthersHaveCalls
others-have-calls [] h = refl
others-have-calls (b ∷ s) h = absurd (begun (at_start (b ∷ s)) (omega arith) (operation_at (at_start (b ∷ s))) refl h)

-- after an operation, nothing or another
rest-same : (k : ℕ) (c : Call × At) → (0 < length (c.1).rest → some_operations k c.1 ≡ operations_at k c.1)
    → cond (eqb (length (c.1).rest) 0) (Ok (c.0 ∷ [], c.1)) (some_operations k c.1 >>= λ (cs : List Call × At). Ok (c.0 ∷ cs.0, cs.1)) ≡ later k c
rest-same k c f = grind (arith, f, nothing_left k c.1)

some-same : (k : ℕ) (s : At) → 0 < length s.rest → length s.rest ≤ k → some_operations k s ≡ operations_at k s
unfolding some_operations
some-same zero s h e = absurd (omega arith)
some-same (suc k) s h e = go (λ r p q. some-same k r p (omega arith)) (operation_at s) (operation_below s) ∙ sym (one_more k s h)
  where
    go : ((r : At) → 0 < length r.rest → length r.rest < length s.rest → some_operations k r ≡ operations_at k r) → (m : Reading Call) → Below (length s.rest) m
        → (m >>= λ (c : Call × At). cond (eqb (length (c.1).rest) 0) (Ok (c.0 ∷ [], c.1)) (some_operations k c.1 >>= λ (cs : List Call × At). Ok (c.0 ∷ cs.0, cs.1))) ≡ (m >>= later k)
    go f (Err b) q = refl
    go f (Ok c) q = rest-same k c (λ p. f c.1 p q)

pub only-empty-moved : OnlyEmptyMoved
unfolding session_at
only-empty-moved s h = ap (λ (m : Reading (List Call)). m >>= λ (cs : List Call × At). Ok cs.0) (sym (some-same (length s) (at_start s) h (omega arith)))
