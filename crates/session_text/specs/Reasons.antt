-- Why a session is refused, in a sentence: which line is due where the first bad line stands, and what is found there (docs/REFERENCE.md, 'Session').
use Rattle.std.specs.Prelude.{List, [], ◌++◌, ℕ, ◌-◌, Result, Ok, Err}
use Rattle.octets.specs.Ascii.{ascii}
use Rattle.text.specs.Numbers.{decimal}
use Rattle.register.specs.Calls.{Call}
use Rattle.session_lines.specs.declared.lines.Due.{Due}
use Rattle.session_lines.specs.declared.lines.BadLine.{BadLine}
use Rattle.session_lines.specs.Keys.{key_of, value_in_words}
use Rattle.session_text.specs.declared.refusals.Refusal.{Refusal}
use Rattle.session_text.specs.declared.refusals.Refusal.TheVariants as refusal
use Rattle.session_text.specs.Output.{calls_of}
use Rattle.session_text.specs.Found.{behind_lines, found_text}

abbrev pub line_text : Due → List ℕ
line_text due = (key_of due ++ ascii " is due, then ") ++ value_in_words due

unfoldable pub bad_line_reason : List ℕ → BadLine → List ℕ
bad_line_reason input bad =
    (((((ascii "line " ++ decimal bad.line) ++ ascii ": ") ++ line_text bad.due) ++ ascii ", then a line feed; found ")
    ++ found_text (behind_lines (bad.line - 1) input)) ++ ascii "\n"

unfoldable pub reason_text : List ℕ → Refusal → List ℕ
reason_text input refusal.TooLong = ascii "the input has more than 65536 bytes\n"
reason_text input (refusal.BadLine bad) = bad_line_reason input bad

-- nothing, where a session is not refused
abbrev pub reason_by : List ℕ → Result (List Call) Refusal → List ℕ
reason_by input (Ok cs) = []
reason_by input (Err r) = reason_text input r

unfoldable pub reason_of : List ℕ → List ℕ
reason_of input = reason_by input (calls_of input)
