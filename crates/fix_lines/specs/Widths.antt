-- No claim rests on these definitions: they say how wide a header and a line can be, so that a writer can ask for room before it knows the text.
use Rattle.std.specs.Prelude.{ℕ}

-- "dominated" is the longest of the roles
abbrev pub role_width : ℕ
role_width = 9

abbrev pub header_width : ℕ
header_width = 122

abbrev pub line_width : ℕ
line_width = 137

abbrev pub refused_width : ℕ
refused_width = 159
