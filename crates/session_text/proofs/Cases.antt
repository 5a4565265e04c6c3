-- The cases of a session's output.
use Rattle.std.proofs.Common.{◌≡◌, ap, sym, refl, ℕ, ◌≤◌, List, length, length-append, Some, None, Result, Ok, Err, ltb, arith, ltb-false}
use Rattle.std.specs.Result.{result_err, result_map_both}
use Rattle.lists.proofs.Bools.{by}
use Rattle.octets.specs.Ascii.{ascii}
use Rattle.text.proofs.Readback.{decimal-width}
use Rattle.register.specs.Memory.{fresh}
use Rattle.register.specs.Calls.{Call}
use Rattle.session_lines.specs.declared.lines.BadLine.{BadLine}
use Rattle.session_lines.specs.Session.{at_start, session_of, calls_from}
use Rattle.session_lines.proofs.Forward.{calls-good}
use Rattle.session_text.specs.declared.refusals.Refusal.{Refusal}
use Rattle.session_text.specs.declared.refusals.Refusal.TheVariants as refusal
use Rattle.session_text.specs.Output.{max_input, calls_of, answers_then_board, refusal_text, text_by, output_of}

-- not refused: its calls are all that are read of it
pub calls-of-good : (s : List ℕ) → None ≡ result_err (calls_of s) → (length s ≤ max_input) × (calls_of s ≡ Ok (calls_from (at_start s)))
unfolding calls_of
calls-of-good s e =
    by (ltb max_input (length s)) (λ h. let f : None ≡ Some refusal.TooLong = rw h at e in cc)
    (λ h. (ltb-false max_input (length s) h, rw h (go (session_of s) refl (rw h at e))))
  where
    go : (m : Result (List Call) BadLine) → session_of s ≡ m → None ≡ result_err (result_map_both (λ (cs : List Call). cs) refusal.BadLine m)
        → result_map_both (λ (cs : List Call). cs) refusal.BadLine m ≡ Ok (calls_from (at_start s))
    go (Ok cs) q e = ap (λ (ds : List Call). let r : Result (List Call) Refusal = Ok ds in r) (sym (calls-good (at_start s) cs q))
    go (Err b) q e = cc

pub output-good : (s : List ℕ) → None ≡ result_err (calls_of s) → (length s ≤ max_input) × (output_of s ≡ answers_then_board fresh (calls_from (at_start s)))
unfolding output_of
output-good s e = let k = calls-of-good s e in (k.0, ap text_by k.1)

-- refused
pub output-refused : (s : List ℕ) (r : Refusal) → Some r ≡ result_err (calls_of s) → output_of s ≡ refusal_text r
unfolding output_of
output-refused s r e = go (calls_of s) e
  where
    go : (m : Result (List Call) Refusal) → Some r ≡ result_err m → text_by m ≡ refusal_text r
    go (Ok cs) e = cc
    go (Err q) e = ap refusal_text (let z : q ≡ r = cc in z)

pub refusal-short : (r : Refusal) → length (refusal_text r) ≤ 37
unfolding refusal_text ascii
refusal-short refusal.TooLong = omega arith
refusal-short (refusal.BadLine bad) = let width = decimal-width bad.line in simp length-append (omega (arith, width))
