-- What is claimed of the cases (docs/REFERENCE.md, 'All small pictures'). The contracts of src/claims.rt name it; the proofs are in proofs/Claimed.
use Rattle.std.specs.Prelude.{◌≡◌, ◌↔◌, ℕ, ◌+◌, false, length, slice_get, Some}
use mathlib.Core.List.{map, Memᴰ}
use Rattle.lists.specs.Ordered.{Ascending, count_from}
use Rattle.decision.specs.Answer.{is_bad}
use Rattle.pictures_text.specs.declared.Case.{Case}
use Rattle.pictures_text.specs.Cases.{cases, IsCase}
use Rattle.pictures_text.specs.Order.{before, number}
use Rattle.pictures_text.specs.Items.{items_of}

-- the list is in order, and holds each case and nothing else
pub record InOrder : Type 0 where
  pub ascends : Ascending before cases
  pub holds : (c : Case) → IsCase c → Memᴰ c cases
  pub only : (c : Case) → Memᴰ c cases → IsCase c

-- there are 2,744; their numbers are 1, 2, 3, ..; and a case stands where its number says and nowhere else, so each stands in the list exactly once
pub record InNumber : Type 0 where
  pub long : length cases ≡ 2744
  pub numbered : map number cases ≡ count_from 1 2744
  pub once : (c : Case) → IsCase c → (i : ℕ) → (slice_get cases i ≡ Some c) ↔ (i + 1 ≡ number c)

-- no case's items are bad, so something is decided of each
abbrev pub NoneBad : Type 0
NoneBad = (c : Case) → IsCase c → is_bad (items_of c) ≡ false
