-- The numbers of an engine: how many held records carry its own bit, and how many of them have each ending. Signers are those of the record's own place, and not
-- those of its identity.
-- Source: docs/REFERENCE.md, 'Monthly numbers'.
use Rattle.std.specs.Prelude.{ℕ, Bool, List, eqb, length}
use Rattle.std.specs.List.{filter}
use Rattle.octets.specs.Masks.{bit}
use Rattle.signed_records.specs.Signed.{signers_in}
use Rattle.register.specs.Register.{Register}
use Rattle.monthly_numbers.specs.Endings.{ending}
use Rattle.monthly_numbers.specs.declared.endings.Ending.{Ending}
use Rattle.monthly_numbers.specs.declared.endings.Ending.TheVariants.{Ranked, Dominated, Refused, Other, Uncounted}
use Rattle.monthly_numbers.specs.declared.numbers.Numbers.{Numbers}

-- the place of an ending among the five
abbrev pub column : Ending → ℕ
column Ranked = 0
column Dominated = 1
column Refused = 2
column Other = 3
column Uncounted = 4

abbrev pub same_ending : Ending → Ending → Bool
same_ending a b = eqb (column a) (column b)

-- the places whose records an engine signed itself
abbrev pub signed_by : Register → ℕ → List (List ℕ)
signed_by s e = filter (λ p. bit (signers_in p) e) s.records

-- how many of them have an ending
abbrev pub ended : Register → ℕ → Ending → ℕ
ended s e a = length (filter (λ p. same_ending a (ending s p)) (signed_by s e))

abbrev pub numbers_of : Register → ℕ → Numbers
numbers_of s e = record {
  held = length (signed_by s e);
  ranked = ended s e Ranked;
  dominated = ended s e Dominated;
  refused = ended s e Refused;
  other = ended s e Other;
  uncounted = ended s e Uncounted;
}
