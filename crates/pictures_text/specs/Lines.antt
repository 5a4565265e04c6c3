-- The text: a line for each case, with its number and the fixes that are ranked, in rank, dominated and refused, each by its number.
-- Source: docs/REFERENCE.md, 'All small pictures'.
use Rattle.std.specs.Prelude.{ℕ, ◌+◌, List, [], ◌∷◌, ◌++◌, map, flat_map}
use Rattle.octets.specs.Ascii.{ascii}
use Rattle.text.specs.Numbers.{decimal}
use Rattle.arithmetic.specs.declared.standing.ChiSquare.{ChiSquare}
use Rattle.decision_rule.specs.Outcome.{Outcome}
use Rattle.decision.specs.Answer.{outcome}
use Rattle.pictures_text.specs.declared.Case.{Case}
use Rattle.pictures_text.specs.Cases.{cases}
use Rattle.pictures_text.specs.Order.{number}
use Rattle.pictures_text.specs.Items.{items_of}

-- the number of the fix at a place, behind a comma
abbrev pub another : ℕ → List ℕ
another place = ascii "," ++ decimal (place + 1)

-- the numbers of the fixes at these places
unfoldable pub numbers : List ℕ → List ℕ
numbers [] = ascii "none"
numbers (place ∷ l) = decimal (place + 1) ++ flat_map another l

-- the line of a case of this number, of which this is decided
unfoldable pub line_of : ℕ → Outcome ℕ ChiSquare → List ℕ
line_of n o =
    (ascii "case=" ++ decimal n)
    ++ ((ascii " ranked=" ++ numbers o.ranked)
    ++ ((ascii " dominated=" ++ numbers o.dominated) ++ ((ascii " refused=" ++ numbers (map (λ x. x.item) o.refused)) ++ ascii "\n")))

abbrev pub line : Case → List ℕ
line c = line_of (number c) (outcome (items_of c))

unfoldable pub pictures : List ℕ
pictures = flat_map line cases
