-- What is told of a session follows from whether it is refused, and why.
use Rattle.std.proofs.Common.{◌≡◌, refl, ap, sym, ℕ, List, Some, None, Result, Ok, Err}
use Rattle.std.specs.Result.{result_err}
use Rattle.register.specs.Calls.{Call}
use Rattle.register.specs.Memory.{fresh}
use Rattle.session_lines.specs.Session.{at_start, calls_from}
use Rattle.session_lines.proofs.Forward.{calls-good}
use Rattle.session_text.specs.declared.refusals.Refusal.{Refusal}
use Rattle.session_text.specs.Output.{calls_of}
use Rattle.session_text.proofs.Quiet.{session-good}
use Rattle.session_text.proofs.Refused.{reason-some}
use Rattle.session_notices.specs.Notices.{notices}
use Rattle.session_notices.specs.Told.{told_by, told_of, ending_with, ending_by, ending_of, said_of, ended_as}
use Rattle.session_notices.specs.Claims.{ToldByRefusal}

said-by : (s : List ℕ) (m : Result (List Call) Refusal) → calls_of s ≡ m → (said_of s (result_err m) ≡ told_by s m) × (ended_as s (result_err m) ≡ ending_by m)
said-by s (Ok cs) q =
    let same : calls_from (at_start s) ≡ cs = calls-good (at_start s) cs (session-good s cs q) in
    (ap (notices 1 1 fresh) same, ap (λ (calls : List Call). ending_with (notices 1 1 fresh calls)) same)
said-by s (Err r) q = (sym (reason-some s r (sym (ap result_err q))), refl)

pub told-by-refusal : ToldByRefusal
unfolding told_of ending_of
told-by-refusal s = let b = said-by s (calls_of s) refl in record { text = b.0; ending = b.1 }
