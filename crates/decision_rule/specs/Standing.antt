-- What is decided of a list of items (as `standing::decide` and `rank` of sky-commons/tally). Of the items only how two of them relate is known, and of what is
-- measured between two only which refusal carries it, so that nothing here sees a byte, a float or an index.
-- Source: docs/REFERENCE.md, 'Decision'.
use Rattle.std.specs.Prelude.{Bool, true, false, not, cond, ◌&&◌, ◌||◌}
use mathlib.Core.List.{List, [], ◌∷◌, flat_map}
use Rattle.decision_rule.specs.Outcome.{Refused, Outcome}
use Rattle.std.specs.List.{filter, list_any}
use Rattle.lists.specs.Lists.{sort, foremost}

pub record Relations (A C : Type 0) : Type 0 where
  -- the second is a consistent subset of the first, and they disagree
  pub disagrees : A → A → Bool
  -- what was measured of the first against its subset
  pub chi_square : A → A → C
  -- the first has strictly more standing
  pub outstands : A → A → Bool
  -- it is verified, and passed
  pub passed : A → Bool
  -- the first is a subset of the second and has its model inputs
  pub within : A → A → Bool
  -- the first has the lower identity
  pub lower : A → A → Bool
  -- the first ranks before the second
  pub ahead : A → A → Bool

module _ {A C : Type 0} (r : Relations A C) (all : List A) where
  -- f passed, has disagreeing subsets, and more standing than each of them
  unfoldable pub supersedes : A → Bool
  supersedes f =
      r.passed f && (list_any (r.disagrees f) all && not (list_any (λ g. r.disagrees f g && not (r.outstands f g)) all))

  -- g takes the place of f
  abbrev pub replaces : A → A → Bool
  replaces f g = supersedes g && r.disagrees g f

  unfoldable pub is_superseded : A → Bool
  is_superseded f = list_any (replaces f) all

  -- g is a disagreeing subset of f that nothing supersedes
  abbrev pub opposes : A → A → Bool
  opposes f g = r.disagrees f g && not (is_superseded g)

  -- f neither supersedes nor is superseded, and something opposes it
  unfoldable pub is_contested : A → Bool
  is_contested f = not (supersedes f) && (not (is_superseded f) && list_any (opposes f) all)

  unfoldable pub is_refused : A → Bool
  is_refused f = is_superseded f || is_contested f

  -- f is a subset, with its model inputs, of one that is not refused
  unfoldable pub is_covered : A → Bool
  is_covered f = list_any (λ g. not (is_refused g) && r.within f g) all

  -- a refused item names the lowest identity of those that replace it, or else of those that oppose it
  abbrev pub replaced : A → List A → List (Refused A C)
  replaced f [] = []
  replaced f (g ∷ gs) =
      let k = foremost r.lower g gs in
      record { item = f; against = k; chi2 = r.chi_square k f; superseded = true } ∷ []

  abbrev pub opposed : A → List A → List (Refused A C)
  opposed f [] = []
  opposed f (g ∷ gs) =
      let k = foremost r.lower g gs in
      record { item = f; against = k; chi2 = r.chi_square f k; superseded = false } ∷ []

  unfoldable pub refusal_of : A → List (Refused A C)
  refusal_of f =
      cond (is_superseded f) (replaced f (filter (replaces f) all))
      (cond (is_contested f) (opposed f (filter (opposes f) all)) [])

  unfoldable pub decide : Outcome A C
  decide = record {
    ranked = sort r.ahead (filter (λ f. not (is_refused f) && not (is_covered f)) all);
    dominated = filter (λ f. not (is_refused f) && is_covered f) all;
    refused = flat_map refusal_of all;
  }
