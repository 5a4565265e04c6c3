-- No claim rests on these definitions: they say what is found of an item, and what is decided of at most one.
use Rattle.std.specs.Prelude.{◌<◌, ℕ, replicate, Option, None, Some}
use mathlib.Core.List.{List, [], ◌∷◌, Memᴰ}
use Rattle.decision_items.specs.Layout.{max_items}
use Rattle.decision_items.specs.declared.item.Item.{Item}
use Rattle.decision_rule.specs.Outcome as O
use Rattle.std.specs.List.{filter}
use Rattle.decision_rule.specs.Standing as S
use Rattle.decision_rule.specs.Standing.{decide}
use Rattle.decision_rule.specs.Listed.{relations}
use Rattle.decision_rule.specs.Rows.{all, replaces, opposes}
use Rattle.decision.specs.Arrays.{DecisionArrays}
use Rattle.decision.specs.declared.Refusal.{Refusal}
use Rattle.decision.specs.Answer.{indices, refusal, refusals}
use Rattle.arithmetic.specs.declared.standing.ChiSquare.{ChiSquare}

-- what is decided of items, by their places
abbrev pub among : List Item → O.Outcome ℕ ChiSquare
among l = decide (relations l) (all l)

-- the refusal of an item: as another takes its place, as another opposes it, and as it is decided
abbrev pub replaced_in : List Item → ℕ → List (O.Refused ℕ ChiSquare)
replaced_in l i = S.replaced (relations l) (all l) i (filter (replaces l i) (all l))

abbrev pub opposed_in : List Item → ℕ → List (O.Refused ℕ ChiSquare)
opposed_in l i = S.opposed (relations l) (all l) i (filter (opposes l i) (all l))

abbrev pub refusal_in : List Item → ℕ → List (O.Refused ℕ ChiSquare)
refusal_in l = S.refusal_of (relations l) (all l)

-- the members of a list are below n
abbrev pub MembersBelow : ℕ → List ℕ → Type 0
MembersBelow n l = (i : ℕ) → Memᴰ i l → i < n

-- a refusal, if there is one
unfoldable pub finding : List (O.Refused ℕ ChiSquare) → Option Refusal
finding [] = None
finding (x ∷ l) = Some (refusal x)

-- the first n of at most one item ranked, and no other listed
unfoldable pub plain_decision : ℕ → ℕ → DecisionArrays
plain_decision answer n =
    record { answer = answer; ranked = record { list = replicate max_items 0; count = n }; dominated = indices []; refusals = refusals [] }
