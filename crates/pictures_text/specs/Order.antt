-- The order of the cases, by the tags of the first fix, the second and the third, and then by their covariances likewise, zeros before the identity; and
-- their numbers.
-- Source: docs/REFERENCE.md, 'All small pictures'.
use Rattle.std.specs.Prelude.{ℕ, ◌+◌, ◌-◌, ◌*◌, Bool, not, cond, ◌&&◌, ◌||◌, ltb}
use Rattle.pictures_text.specs.declared.Case.{Case}
use Rattle.pictures_text.specs.Cases.{Choice}

-- by the first, and where neither first comes before the other by the second
abbrev pub then_by : {A B : Type 0} → (A → A → Bool) → (B → B → Bool) → A × B → A × B → Bool
then_by p q u v = p u.0 v.0 || (not (p v.0 u.0) && q u.1 v.1)

-- zeros before the identity
abbrev pub zeros_first : Bool → Bool → Bool
zeros_first x y = not x && y

-- what a case is ordered by
abbrev pub choice_of : Case → Choice
choice_of c = (c.first.tags, (c.second.tags, (c.third.tags, (c.first.unit, (c.second.unit, c.third.unit)))))

abbrev pub choice_before : Choice → Choice → Bool
choice_before = then_by ltb (then_by ltb (then_by ltb (then_by zeros_first (then_by zeros_first zeros_first))))

abbrev pub before : Case → Case → Bool
before c d = choice_before (choice_of c) (choice_of d)

-- 0 for zeros, 1 for the identity
abbrev pub digit : Bool → ℕ
digit x = cond x 1 0

-- 1 for the first case
abbrev pub number : Case → ℕ
number c =
    (((c.first.tags - 1) * 7 + (c.second.tags - 1)) * 7 + (c.third.tags - 1)) * 8
    + (4 * digit c.first.unit + 2 * digit c.second.unit + digit c.third.unit)
    + 1
