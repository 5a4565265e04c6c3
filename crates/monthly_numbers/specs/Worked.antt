-- The numbers of a small register, worked out by hand.
-- Source: docs/REFERENCE.md, 'Monthly numbers'.
use Rattle.std.specs.Prelude.{ℕ, ◌+◌, ◌≡◌, List, [], ◌∷◌, ◌++◌, take, drop, flat_map}
use Rattle.octets.specs.Ascii.{ascii}
use Rattle.octets.specs.Words.{word_bytes}
use Rattle.lists.specs.Ordered.{count_from}
use Rattle.text.specs.Numbers.{decimal}
use Rattle.record.specs.Layout.{model_count_at}
use Rattle.record.specs.Worked.{record_with}
use Rattle.decision.specs.Positions.{S, M, L}
use Rattle.register.specs.Register.{Register}
use Rattle.monthly_numbers.specs.declared.endings.Ending.TheVariants.{Ranked, Dominated, Refused, Other, Uncounted}
use Rattle.monthly_numbers.specs.Endings.{ending}
use Rattle.monthly_numbers.specs.Text.{text_of}

-- ---- a register

-- one model is cited: model 5, of which nothing is held
abbrev pub cites_5 : List ℕ → List ℕ
cites_5 r = take model_count_at r ++ (1 ∷ 5 ∷ drop (model_count_at + 2) r)

-- a record in its place, with its signers
abbrev pub place : List ℕ → ℕ → List ℕ
place r signers = r ++ word_bytes 4 signers

-- S, M and L are of one transmission, in which M is ranked; another record has the identity of S, which S represents
abbrev pub of_S : List ℕ
of_S = place S 2

abbrev pub of_its_identity : List ℕ
of_its_identity = place (record_with (1 ∷ []) 1) 12

abbrev pub of_a_missing_model : List ℕ
of_a_missing_model = place (cites_5 (record_with (9 ∷ []) 9)) 8

abbrev pub of_L : List ℕ
of_L = place L 8

abbrev pub of_M : List ℕ
of_M = place M 6

abbrev pub held : Register
held = record { convicted = 0; summaries = []; records = of_S ∷ of_its_identity ∷ of_a_missing_model ∷ of_L ∷ of_M ∷ [] }

-- ---- its numbers

-- an engine that signed nothing
abbrev pub zeros : ℕ → List ℕ
zeros e = (ascii "engine=" ++ decimal e) ++ ascii " held=0 ranked=0 dominated=0 refused=0 other=0 uncounted=0\n"

abbrev pub lines : List ℕ
lines =
    zeros 0
    ++ ascii "engine=1 held=2 ranked=1 dominated=1 refused=0 other=0 uncounted=0\n"
    ++ ascii "engine=2 held=2 ranked=1 dominated=0 refused=0 other=1 uncounted=0\n"
    ++ ascii "engine=3 held=3 ranked=0 dominated=0 refused=1 other=1 uncounted=1\n"
    ++ flat_map zeros (count_from 4 28)

pub record NumbersWorked : Type 0 where
  pub ends_S : ending held of_S ≡ Dominated
  pub ends_its_identity : ending held of_its_identity ≡ Other
  pub ends_a_missing_model : ending held of_a_missing_model ≡ Uncounted
  pub ends_L : ending held of_L ≡ Refused
  pub ends_M : ending held of_M ≡ Ranked
  pub text : text_of held ≡ lines
