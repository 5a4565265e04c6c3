-- What is said of a list by an order between its members.
-- Source: docs/REFERENCE.md, 'Register and board' and 'Agreement and decision', whose orders these are.
use Rattle.std.specs.Prelude.{ℕ, ◌-◌, Bool, cond, length, drop}
use mathlib.Core.List.{List, [], ◌∷◌}

module _ {A : Type 0} where
  -- x put in behind those that come before it
  unfoldable pub insert : (A → A → Bool) → A → List A → List A
  insert before x [] = x ∷ []
  insert before x (y ∷ l) = let rest = insert before x l in cond (before y x) (y ∷ rest) (x ∷ (y ∷ l))

  -- the members in order
  unfoldable pub sort : (A → A → Bool) → List A → List A
  sort before [] = []
  sort before (x ∷ l) = insert before x (sort before l)

  -- of x and the members of a list the one that comes before the others
  unfoldable pub foremost : (A → A → Bool) → A → List A → A
  foremost before x [] = x
  foremost before x (y ∷ l) = foremost before (cond (before y x) y x) l

  -- the last n members, or all where there are fewer
  abbrev pub last_of : ℕ → List A → List A
  last_of n l = drop (length l - n) l
