-- No claim rests on these definitions: they say which items a decision is of, where each was given by its place.
use Rattle.std.specs.Prelude.{◌≡◌, ◌<◌, ℕ, length, slice_get, Some}
use mathlib.Core.List.{List}
use Rattle.decision_items.specs.declared.item.Item.{Item}
use Rattle.decision.specs.declared.Decision.{Decision}
use Rattle.decision.specs.Answered.{Says}
use Rattle.decision.specs.Working.{among}

-- so it is of the first k of a list, each with its place
abbrev pub Each : (ℕ → Item → Type 0) → List Item → ℕ → Type 0
Each holds l k = (i : ℕ) (x : Item) → i < k → slice_get l i ≡ Some x → holds i x

-- d is what is decided of n items, of each of which, with its place, so it is
pub record DecidesEach {N : ℕ} (holds : ℕ → Item → Type 0) (n : ℕ) (d : Decision N) : Type 0 where
  pub items : List Item
  pub long : length items ≡ n
  pub held : Each holds items n
  pub says : Says d (among items)
