-- A session performed on a register in any bytes, and why one is refused (docs/REFERENCE.md, 'Operations' and 'Session').
use Rattle.std.specs.Prelude.{ℕ, cond, List, ◌++◌, ltb, length, drop, Result, Ok, Err}
use Rattle.errors.specs.After.{After, after, write_text}
use Rattle.register.specs.Memory.{well_formed}
use Rattle.register.specs.Calls.{Call, runs}
use Rattle.session_text.specs.declared.refusals.Refusal.{Refusal}
use Rattle.session_text.specs.declared.refusals.Refusal.TheVariants as refusal
use Rattle.session_text.specs.Output.{max_input, calls_of, answers}
use Rattle.session_text.specs.Reasons.{reason_of}

-- 12: more bytes than are read. 11: a line that is not due
abbrev pub refusal_number : Refusal → ℕ
refusal_number refusal.TooLong = 12
refusal_number (refusal.BadLine bad) = 11

-- what a caller lends at least for the answers, each of which is shorter than its operation; less is refused with 10
abbrev pub answers_size : ℕ
answers_size = max_input

-- the register after all of the calls, and their answers at the start of the output
abbrev pub perform_calls : List Call → List ℕ → List ℕ → After (List ℕ × List ℕ)
perform_calls cs m out = let t = answers m cs in after (length t) (runs m cs, t ++ drop (length t) out)

abbrev pub perform_by : Result (List Call) Refusal → List ℕ → List ℕ → After (List ℕ × List ℕ)
perform_by (Err r) m out = after (refusal_number r) (m, out)
perform_by (Ok cs) m out = cond (ltb (length out) answers_size) (after 10 (m, out)) (perform_calls cs m out)

-- 1 for bytes that are no register, then 12 or 11 for a session that is refused, then 10 for an output under 65,536 bytes: neither is changed then. Else the
-- calls are performed and their answers written, and the answer is the length of these
unfoldable pub perform_session : List ℕ → List ℕ → List ℕ → After (List ℕ × List ℕ)
perform_session input m out = cond (well_formed m) (perform_by (calls_of input) m out) (after 1 (m, out))

-- why a session is refused, at the start of the output; nothing where it is not
abbrev pub write_reason : List ℕ → List ℕ → After (List ℕ)
write_reason input out = write_text (reason_of input) out
