-- The text of a board for a crew: of each transmission a header that gives its number alone, then the line of each ranked fix in rank, as on the full board.
-- Source: docs/REFERENCE.md, 'Text'.
use Rattle.std.specs.Prelude.{ℕ, suc}
use mathlib.Core.List.{List, [], ◌∷◌, ◌++◌, flat_map}
use Rattle.octets.specs.Ascii.{ascii}
use Rattle.text.specs.Numbers.{decimal}
use Rattle.fixes.specs.Shown.{Transmission}
use Rattle.fix_lines.specs.Text.{ranked_text}

-- transmission=1
unfoldable pub crew_header : ℕ → List ℕ
crew_header number = (ascii "transmission=" ++ decimal number) ++ ascii "\n"

-- a transmission with its number
unfoldable pub crew_text_of : ℕ → Transmission → List ℕ
crew_text_of number t = crew_header number ++ flat_map ranked_text t.ranked

-- transmissions, the first with this number
unfoldable pub crew_text_from : ℕ → List Transmission → List ℕ
crew_text_from number [] = []
crew_text_from number (t ∷ ts) = crew_text_of number t ++ crew_text_from (suc number) ts

-- the first is numbered 1
abbrev pub crew_text : List Transmission → List ℕ
crew_text ts = crew_text_from 1 ts
