-- What is claimed of the monthly numbers, of every register in memory. The contracts of src/claims.rt name it; the proofs are in proofs/.
-- Source: docs/REFERENCE.md, 'Monthly numbers'.
use Rattle.std.specs.Prelude.{ℕ, ◌+◌, ◌≤◌, ◌≡◌, ◌↔◌, true, length}
use mathlib.Core.List.{List, Memᴰ}
use Rattle.std.specs.List.{filter}
use Rattle.octets.specs.Masks.{bit}
use Rattle.signed_records.specs.Signed.{signers_in}
use Rattle.engines.specs.Limits.{max_engine}
use Rattle.fixes.specs.Fix.{Fix}
use Rattle.board_fixes.specs.Fixes.{fixes_of}
use Rattle.register.specs.Register.{Register}
use Rattle.register.specs.Memory.{well_formed, decode}
use Rattle.monthly_numbers.specs.declared.endings.Ending.{Ending}
use Rattle.monthly_numbers.specs.declared.endings.Ending.TheVariants.{Ranked, Dominated, Refused, Other, Uncounted}
use Rattle.monthly_numbers.specs.declared.numbers.Numbers.{Numbers}
use Rattle.monthly_numbers.specs.Endings.{Represents, IsRanked, IsDominated, IsRefused, IsOther, IsUncounted, Ends, ending}
use Rattle.monthly_numbers.specs.Numbers.{numbers_of}
use Rattle.monthly_numbers.specs.Text.{line, line_size}

-- ---- a held record

-- its ending is the one that the words say
pub record ExactlyWhere (s : Register) (p : List ℕ) : Type 0 where
  pub ranked : (ending s p ≡ Ranked) ↔ IsRanked s p
  pub dominated : (ending s p ≡ Dominated) ↔ IsDominated s p
  pub refused : (ending s p ≡ Refused) ↔ IsRefused s p
  pub other : (ending s p ≡ Other) ↔ IsOther s p
  pub uncounted : (ending s p ≡ Uncounted) ↔ IsUncounted s p

abbrev pub EndsExactlyWhere : Type 0
EndsExactlyWhere = (m : List ℕ) → well_formed m ≡ true → (p : List ℕ) → Memᴰ p (decode m).records → ExactlyWhere (decode m) p

-- it ends in just one of the five ways
pub record Once (s : Register) (p : List ℕ) : Type 0 where
  pub way : Ending
  pub ends : Ends s p way
  pub only : (e : Ending) → Ends s p e → e ≡ way

abbrev pub EndsOnce : Type 0
EndsOnce = (m : List ℕ) → well_formed m ≡ true → (p : List ℕ) → Memᴰ p (decode m).records → Once (decode m) p

-- ---- a fix

-- one held record represents it, and no other
pub record ByOne (s : Register) (f : Fix) : Type 0 where
  pub place : List ℕ
  pub held : Memᴰ place s.records
  pub represents : Represents place f
  pub only : (q : List ℕ) → Memᴰ q s.records → Represents q f → q ≡ place

abbrev pub RepresentedOnce : Type 0
RepresentedOnce = (m : List ℕ) → well_formed m ≡ true → (f : Fix) → Memᴰ f (fixes_of (decode m).summaries (decode m).records) → ByOne (decode m) f

-- ---- the numbers of an engine

abbrev pub sum_of : Numbers → ℕ
sum_of n = n.ranked + (n.dominated + (n.refused + (n.other + n.uncounted)))

-- the five add up to the first
abbrev pub AddUp : Type 0
AddUp = (m : List ℕ) → well_formed m ≡ true → (e : ℕ) → sum_of (numbers_of (decode m) e) ≡ (numbers_of (decode m) e).held

-- and so to the number of places with the engine's bit
abbrev pub EachSignedEnds : Type 0
EachSignedEnds =
    (m : List ℕ) → well_formed m ≡ true → (e : ℕ) → sum_of (numbers_of (decode m) e) ≡ length (filter (λ p. bit (signers_in p) e) (decode m).records)

-- ---- the text

-- a line has at most 74 bytes with its line feed
abbrev pub LinesAreShort : Type 0
LinesAreShort = (m : List ℕ) → well_formed m ≡ true → (e : ℕ) → e ≤ max_engine → length (line e (numbers_of (decode m) e)) ≤ line_size
