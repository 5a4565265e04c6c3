-- The number of what a session performed on a register is answered (docs/REFERENCE.md, 'Answers').
use Rattle.std.specs.Prelude.{ℕ, Result, Ok, Err}
use Rattle.errors.specs.Errors.{error_number}
use Rattle.session_text.specs.declared.performed.Unperformed.{Unperformed}
use Rattle.session_text.specs.declared.performed.Unperformed.TheVariants as unperformed
use Rattle.session_text.specs.Performed.{refusal_number}

abbrev pub unperformed_number : Unperformed → ℕ
unperformed_number (unperformed.Error e) = error_number e
unperformed_number (unperformed.Refusal r) = refusal_number r

-- how many bytes of answers were written, or the number of why it is not performed
abbrev pub performed_number : Result ℕ Unperformed → ℕ
performed_number (Ok n) = n
performed_number (Err u) = unperformed_number u
