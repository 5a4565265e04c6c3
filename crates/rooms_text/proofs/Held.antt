-- The register that a session leaves, read by its operations.
use Rattle.std.proofs.Common.{◌≡◌, ◌∙◌, ap, sym, refl, ℕ, List, length, Some, None, Result, Ok, Err, ltb, eqb}
use Rattle.std.specs.Result.{result_err, result_map_both}
use Rattle.lists.proofs.Bools.{by}
use Rattle.errors.specs.After.{After, after}
use Rattle.register.specs.Memory.{fresh}
use Rattle.register.specs.Calls.{Call, called, runs}
use Rattle.session_lines.specs.declared.lines.BadLine.{BadLine}
use Rattle.session_lines.specs.Lines.{At}
use Rattle.session_lines.specs.Operations.{operation_at}
use Rattle.session_lines.specs.Session.{at_start, session_of, calls_from}
use Rattle.session_lines.proofs.Forward.{calls-good, calls-step, calls-end}
use Rattle.session_text.specs.declared.refusals.Refusal.{Refusal as Refused}
use Rattle.session_text.specs.declared.refusals.Refusal.TheVariants as refusal
use Rattle.session_text.specs.Output.{max_input, calls_of}
use Rattle.rooms_text.specs.declared.reading.Refusal.TheVariants.{Session}
use borrow.Author.Tests.{eq-eqb, eqb-true}
use Rattle.register.specs.Layout.{register_size}
use Rattle.rooms_text.specs.Reading.{saved_in, session_in, held_in}

-- what is left of a session leaves what all of it does
module _ (whole m : List ℕ) (s : At) (h : whole ≡ runs m (calls_from s)) where
  pub performed-more : (c : Call) (r : At) → operation_at s ≡ Ok (c, r) → (a : ℕ) (m' : List ℕ) → after a m' ≡ called c m → whole ≡ runs m' (calls_from r)
  unfolding runs
  performed-more c r q a m' p =
      h ∙ ap (runs m) (calls-step s c r q) ∙ ap (λ (z : List ℕ). runs z (calls_from r)) (ap (λ (z : After (List ℕ)). z.left) (sym p))

  pub performed-end : (b : BadLine) → operation_at s ≡ Err b → m ≡ whole
  unfolding runs
  performed-end b q = sym (h ∙ ap (runs m) (calls-end s b q))

pub session-good : (s : List ℕ) → None ≡ result_err (calls_of s) → session_in s ≡ Ok (runs fresh (calls_from (at_start s)))
unfolding calls_of
session-good s e =
    by (ltb max_input (length s)) (λ h. let f : None ≡ Some refusal.TooLong = rw h at e in cc)
    (λ h. rw h (go (session_of s) refl (rw h at e)))
  where
    go : (m : Result (List Call) BadLine) → session_of s ≡ m → None ≡ result_err (result_map_both (λ (cs : List Call). cs) refusal.BadLine m)
        → result_map_both (runs fresh) Session (result_map_both (λ (cs : List Call). cs) refusal.BadLine m) ≡ Ok (runs fresh (calls_from (at_start s)))
    go (Ok cs) q e = ap (λ (z : List Call). Ok (runs fresh z)) (sym (calls-good (at_start s) cs q))
    go (Err b) q e = cc

pub session-refused : (s : List ℕ) (r : Refused) → Some r ≡ result_err (calls_of s) → session_in s ≡ Err (Session r)
session-refused s r e = go (calls_of s) e
  where
    go : (m : Result (List Call) Refused) → Some r ≡ result_err m → result_map_both (runs fresh) Session m ≡ Err (Session r)
    go (Ok cs) e = cc
    go (Err q) e = let z : q ≡ r = cc in ap (λ (x : Refused). Err (Session x)) z

-- which of the two the bytes are
pub held-saved : (s : List ℕ) → length s ≡ register_size → held_in s ≡ saved_in s
unfolding held_in
held-saved s e = rw (eq-eqb (length s) register_size e) refl

pub held-session : (s : List ℕ) → (length s ≡ register_size → ⊥) → held_in s ≡ session_in s
unfolding held_in
held-session s e = by (eqb (length s) register_size) (λ h. absurd (e (eqb-true (length s) register_size h))) (λ h. rw h refl)
