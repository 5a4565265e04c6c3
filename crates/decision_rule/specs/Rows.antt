-- No claim rests on these definitions: they say what is known of each of the items of a list, and what is decided of them, as sets of places.
use Rattle.std.specs.Prelude.{◌≡◌, ℕ, ◌<◌, Bool, not, ◌&&◌, List, length, slice_get, Option, Some}
use Rattle.std.specs.List.{filter}
use Rattle.lists.specs.Ordered.{up_to}
use Rattle.decision_items.specs.declared.item.Item.{Item}
use Rattle.decision_rule.specs.Standing as S
use Rattle.decision_rule.specs.declared.row.Row.{Row}
use Rattle.decision_rule.specs.First.{foremost_of}
use Rattle.decision_rule.specs.Listed as L
use Rattle.decision_rule.specs.Listed.{relations}
use Rattle.decision_rule.specs.Places.{set_of}

module _ (l : List Item) where
  -- the places of all
  abbrev pub all : List ℕ
  all = up_to (length l)

  -- j is a disagreeing subset of i over which i does not stand
  abbrev pub resists : ℕ → ℕ → Bool
  resists i j = (relations l).disagrees i j && not ((relations l).outstands i j)

  -- how item i stands to the first m of the others
  abbrev pub row : ℕ → ℕ → Row
  row i m = record {
    disagreeing = record { word = set_of ((relations l).disagrees i) m };
    resisting = record { word = set_of (resists i) m };
    subsets = record { word = set_of (L.has_subset l i) m };
  }

  -- the rows of the first m items
  abbrev pub Rows : ℕ → List Row → Type 0
  Rows m rows = (i : ℕ) → i < m → slice_get rows i ≡ Some (row i (length l))

  abbrev pub supersedes : ℕ → Bool
  supersedes = S.supersedes (relations l) all

  abbrev pub replaces : ℕ → ℕ → Bool
  replaces = S.replaces (relations l) all

  abbrev pub is_superseded : ℕ → Bool
  is_superseded = S.is_superseded (relations l) all

  abbrev pub opposes : ℕ → ℕ → Bool
  opposes = S.opposes (relations l) all

  abbrev pub is_refused : ℕ → Bool
  is_refused = S.is_refused (relations l) all

  abbrev pub is_covered : ℕ → Bool
  is_covered = S.is_covered (relations l) all

  abbrev pub is_dominated : ℕ → Bool
  is_dominated i = not (is_refused i) && is_covered i

  abbrev pub is_ranked : ℕ → Bool
  is_ranked i = not (is_refused i) && not (is_covered i)

-- those of a list that pass a test, as a set of places
abbrev pub set_where : (List Item → ℕ → Bool) → List Item → ℕ
set_where test l = set_of (test l) (length l)

-- the lowest identity of those that pass a test
abbrev pub lowest : List Item → (ℕ → Bool) → Option ℕ
lowest l test = foremost_of (relations l).lower (filter test (all l))
