-- The cases: three fixes, each with tags out of 1, 2 and 3, of which there is at least one, and a covariance of zeros or the identity.
-- Source: docs/REFERENCE.md, 'All small pictures'.
use Rattle.std.specs.Prelude.{ℕ, ◌≤◌, Bool, true, false}
use mathlib.Core.List.{List, [], ◌∷◌, map, flat_map}
use Rattle.lists.specs.Ordered.{count_from}
use Rattle.pictures_text.specs.declared.Member.{Member}
use Rattle.pictures_text.specs.declared.Case.{Case}

-- the masks of every set of tags but the empty one
abbrev pub masks : List ℕ
masks = count_from 1 7

-- the covariances: zeros, and then the identity
abbrev pub covariances : List Bool
covariances = false ∷ true ∷ []

-- every member of the one list with every member of the other, the first slowest
unfoldable pub pairs : {A B : Type 0} → List A → List B → List (A × B)
pairs l m = flat_map (λ x. map (λ y. (x, y)) m) l

-- the tags of three fixes, and the covariances of three
abbrev pub Choice : Type 0
Choice = ℕ × (ℕ × (ℕ × (Bool × (Bool × Bool))))

abbrev pub case_of : Choice → Case
case_of (a, (b, (c, (x, (y, z))))) =
    record {
      first = record { tags = a; unit = x };
      second = record { tags = b; unit = y };
      third = record { tags = c; unit = z };
    }

unfoldable pub cases : List Case
cases = map case_of (pairs masks (pairs masks (pairs masks (pairs covariances (pairs covariances covariances)))))

-- there is a tag, and each is 1, 2 or 3
abbrev pub HasTags : Member → Type 0
HasTags m = (1 ≤ m.tags) × (m.tags ≤ 7)

pub record IsCase (c : Case) : Type 0 where
  pub first : HasTags c.first
  pub second : HasTags c.second
  pub third : HasTags c.third
