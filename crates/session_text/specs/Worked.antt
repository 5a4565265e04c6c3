-- Reasons of some sessions, worked out.
-- Source: docs/REFERENCE.md, 'Session'.
use Rattle.std.specs.Prelude.{◌≡◌, []}
use Rattle.octets.specs.Ascii.{ascii}
use Rattle.session_text.specs.Reasons.{reason_of}

pub record ReasonsWorked : Type 0 where
  pub empty_line : reason_of (ascii "\n") ≡ ascii "line 1: op= is due, then summary, convict or report, then a line feed; found ''\n"
  pub no_such_operation :
      reason_of (ascii "op=convict\nengine=7\nop=reports\n")
      ≡ ascii "line 3: op= is due, then summary, convict or report, then a line feed; found 'op=reports'\n"
  pub leading_zero :
      reason_of (ascii "op=convict\nengine=07\n")
      ≡ ascii "line 2: engine= is due, then a decimal number from 0 to 255 without leading zeros, then a line feed; found 'engine=07'\n"
  pub another_key :
      reason_of (ascii "op=summary\nengine=7\nspec=1\n")
      ≡ ascii "line 3: model= is due, then a decimal number from 0 to 255 without leading zeros, then a line feed; found 'spec=1'\n"
  pub no_line_feed :
      reason_of (ascii "op=summary\nengine=7\nmodel=1\nspec=1")
      ≡ ascii "line 4: spec= is due, then a decimal number from 0 to 65535 without leading zeros, then a line feed; found 'spec=1' and the end of the input, without a line feed\n"
  pub carriage_return :
      reason_of (ascii "op=convict\r\n")
      ≡ ascii "line 1: op= is due, then summary, convict or report, then a line feed; found 'op=convict\\x0d', with a carriage return before the line feed\n"
  pub nothing_left :
      reason_of (ascii "op=convict\n")
      ≡ ascii "line 2: engine= is due, then a decimal number from 0 to 255 without leading zeros, then a line feed; found the end of the input\n"
  -- two sessions that are not refused
  pub one_conviction : reason_of (ascii "op=convict\nengine=7\n") ≡ []
  pub nothing : reason_of [] ≡ []
