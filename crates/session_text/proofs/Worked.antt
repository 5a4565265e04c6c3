-- Reasons of some sessions.
use Rattle.std.proofs.Common.{refl}
use Rattle.octets.specs.Ascii.{ascii}
use Rattle.text.specs.Numbers.{digits, hex}
use Rattle.text.specs.Reading.{decimal_value}
use Rattle.session_lines.specs.Numbers.{all_digits, digits_after, read_number}
use Rattle.session_lines.specs.Lines.{cut, text, value}
use Rattle.session_lines.specs.Operations.{kind_of, conviction_at, summary_at, operation_at}
use Rattle.session_lines.specs.Session.{operations_at, session_at}
use Rattle.session_text.specs.Output.{calls_of}
use Rattle.session_text.specs.Found.{behind_lines, quoted, found_text}
use Rattle.session_text.specs.Reasons.{bad_line_reason, reason_text, reason_of}
use Rattle.session_text.specs.Worked.{ReasonsWorked}

pub reasons-worked : ReasonsWorked
unfolding reason_of reason_text found_text quoted behind_lines hex bad_line_reason calls_of session_at operations_at operation_at kind_of conviction_at summary_at value text cut read_number digits_after all_digits decimal_value digits ascii
reasons-worked = record { empty_line = refl; no_such_operation = refl; leading_zero = refl; another_key = refl; no_line_feed = refl; carriage_return = refl; nothing_left = refl; one_conviction = refl; nothing = refl }
