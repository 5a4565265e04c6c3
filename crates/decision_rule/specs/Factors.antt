-- No claim rests on these definitions: they say what a table holds of the factors of some items' covariances. Where one was asked for its place says
-- what it is, or that there is none.
use Rattle.std.specs.Prelude.{◌≡◌, ℕ, List, slice_get, Option, Some}
use Rattle.std.specs.Option.{ForSome}
use Rattle.geometry.specs.declared.linalg.Factor.{Factor}
use Rattle.decision_items.specs.Values as V
use Rattle.decision_items.specs.declared.item.Item.{Item}

-- what is known of an item's factor
abbrev pub IsKnown : Item → Option (Option Factor) → Type 0
IsKnown x known = ForSome known (λ f. V.factor x ≡ f)

-- a table with a place for each of the items in a list
abbrev pub Factors : List Item → List (Option (Option Factor)) → Type 0
Factors l table = (j : ℕ) (x : Item) (known : Option (Option Factor)) → slice_get l j ≡ Some x → slice_get table j ≡ Some known → IsKnown x known
