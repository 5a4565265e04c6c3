-- No claim rests on these definitions: they are the pieces of a line that say what became of its fix.
use Rattle.std.specs.Prelude.{List, [], ◌++◌, ℕ}
use Rattle.octets.specs.Ascii.{ascii}
use Rattle.fix_lines.specs.Lines.{chi_square_text}
use Rattle.fix_lines.specs.declared.Standing.{Standing}
use Rattle.fix_lines.specs.declared.Standing.TheVariants.{Ranked, Dominated, Refused}

-- in a word
unfoldable pub standing_name : Standing → List ℕ
standing_name Ranked = ascii "ranked"
standing_name Dominated = ascii "dominated"
standing_name (Refused x) = ascii "refused"

-- what is said besides of one that is refused
unfoldable pub refusal_text : Standing → List ℕ
refusal_text Ranked = []
refusal_text Dominated = []
refusal_text (Refused x) = ascii " chi2=" ++ chi_square_text x
