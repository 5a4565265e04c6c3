-- The keys of the lines, and what their values are in words.
-- Source: docs/REFERENCE.md, 'Session'.
use Rattle.std.specs.Prelude.{ℕ, List, codes}
use Rattle.session_lines.specs.declared.lines.Due.{Due}
use Rattle.session_lines.specs.declared.lines.Due.TheVariants as due

abbrev pub key_of : Due → List ℕ
key_of due.Op = codes "op="
key_of due.Engine = codes "engine="
key_of due.Model = codes "model="
key_of due.Spec = codes "spec="
key_of due.Inputs = codes "inputs="
key_of due.Time = codes "time="
key_of due.Lat = codes "lat="
key_of due.Lon = codes "lon="
key_of due.Height = codes "height="
key_of due.Message = codes "message="
key_of due.Tags = codes "tags="
key_of due.Used = codes "used="
key_of due.Models = codes "models="
key_of due.Cov = codes "cov="

abbrev pub value_in_words : Due → List ℕ
value_in_words due.Op = codes "summary, convict or report"
value_in_words due.Engine = codes "a decimal number from 0 to 255 without leading zeros"
value_in_words due.Model = codes "a decimal number from 0 to 255 without leading zeros"
value_in_words due.Spec = codes "a decimal number from 0 to 65535 without leading zeros"
value_in_words due.Inputs = codes "64 lowercase hex digits"
value_in_words due.Time = codes "a decimal number from 0 to 18446744073709551615 without leading zeros"
value_in_words due.Lat = codes "a decimal number from -2147483648 to 2147483647 without leading zeros"
value_in_words due.Lon = codes "a decimal number from -2147483648 to 2147483647 without leading zeros"
value_in_words due.Height = codes "the word none, or a decimal number from -2147483648 to 2147483647 without leading zeros"
value_in_words due.Message = codes "14 or 28 lowercase hex digits"
value_in_words due.Tags = codes "1 to 24 decimal numbers from 0 to 18446744073709551615 without leading zeros, with commas between"
value_in_words due.Used = codes "a decimal number from 0 to 4294967295 without leading zeros"
value_in_words due.Models = codes "the word none, or 1 to 4 decimal numbers from 0 to 255 without leading zeros, with commas between"
value_in_words due.Cov = codes "96 lowercase hex digits, 16 for each of six numbers"
