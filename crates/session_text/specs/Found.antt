-- What is found where a line is bad, as the sentence shows it (docs/REFERENCE.md, 'Session'): the first bytes of that line, and in words what stands at its end
-- where that is no line feed alone.
use Rattle.std.specs.Prelude.{ℕ, zero, suc, ◌-◌, Bool, ◌&&◌, List, [], ◌∷◌, ◌++◌, ◌==◌, if◌then◌else◌, leb, nat_lt, length, slice_index, take, flat_map, Option, Some, None}
use Rattle.octets.specs.Ascii.{ascii}
use Rattle.text.specs.Numbers.{hex}
use Rattle.session_lines.specs.Numbers.{split_once}

-- the bytes behind the first line feed
abbrev pub behind_feed : Option (List ℕ × List ℕ) → List ℕ
behind_feed None = []
behind_feed (Some p) = p.1

-- the bytes behind the first n line feeds: from line n + 1 on
unfoldable pub behind_lines : ℕ → List ℕ → List ℕ
behind_lines zero s = s
behind_lines (suc n) s = behind_feed (split_once 10 (behind_lines n s))

-- so many bytes of a line are shown
abbrev pub most_shown : ℕ
most_shown = 60

abbrev pub is_printable : ℕ → Bool
is_printable b = leb 32 b && leb b 126

-- a printable ASCII character as itself, any other byte as `\x` and two hex digits
abbrev pub shown_byte : ℕ → List ℕ
shown_byte b = if is_printable b then b ∷ [] else (92 ∷ 120 ∷ []) ++ hex 2 b

abbrev pub shown_end : List ℕ → List ℕ
shown_end t = if nat_lt most_shown (length t) then ascii "'.." else ascii "'"

-- a line between quotes; of a longer one its first bytes
unfoldable pub quoted : List ℕ → List ℕ
quoted t = (ascii "'" ++ flat_map shown_byte (take most_shown t)) ++ shown_end t

abbrev pub ends_in_return : List ℕ → Bool
ends_in_return t = nat_lt 0 (length t) && slice_index t (length t - 1) == 13

-- what stands at the end of a line that has a line feed
abbrev pub return_words : List ℕ → List ℕ
return_words t = if ends_in_return t then ascii ", with a carriage return before the line feed" else []

abbrev pub found_by : List ℕ → Option (List ℕ × List ℕ) → List ℕ
found_by s None = quoted s ++ ascii " and the end of the input, without a line feed"
found_by s (Some p) = quoted p.0 ++ return_words p.0

-- what is found on the first line of these bytes
unfoldable pub found_text : List ℕ → List ℕ
found_text s = if length s == 0 then ascii "the end of the input" else found_by s (split_once 10 s)
