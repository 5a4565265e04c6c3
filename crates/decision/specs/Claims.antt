-- What is claimed of every decision. A reader who believes this file, and the definitions it names, needs none of the proofs; src/claims.rt has a function whose
-- contract each of these is.
-- Source: docs/REFERENCE.md, 'Decision'.
use Rattle.std.specs.Prelude.{◌≡◌, true, false, ℕ, ◌*◌, ◌/◌, ◌<◌, length, take, drop}
use mathlib.Core.List.{List, [], ◌∷◌, ◌++◌, map, Memᴰ, Permᴰ}
use Rattle.lists.specs.Ordered.{Ascending, up_to}
use Rattle.arithmetic.specs.Agree.{agreement_of, agrees_of, chi_square_in}
use Rattle.decision_items.specs.Layout.{item_size}
use Rattle.decision_items.specs.Items.{item_identity, item_consistent, subset_at, agreement_at, outstands_at, lower_at, ahead_at, item_verified, is_passed}
use Rattle.decision_items.specs.Claimed.{claim_of}
use Rattle.decision_rule.specs.Standing.{Relations, is_superseded, decide}
use Rattle.decision_rule.specs.Outcome.{Refused, Outcome}
use Rattle.decision_rule.specs.Related.{item_relations}
use Rattle.decision.specs.Answer.{is_bad, outcome, decided_arrays, indices, refusals}
use Rattle.decision.specs.Sorted.{sorted_outcome}
use Rattle.decision.specs.Positions.{item, S, M, L}
use Rattle.arithmetic.specs.declared.standing.ChiSquare.{ChiSquare}

-- the items that an outcome lists
abbrev pub listed_in : {A C : Type 0} → Outcome A C → List A
listed_in o = o.ranked ++ (o.dominated ++ map (λ x. x.item) o.refused)

-- Every item falls in exactly one of ranked, dominated, refused: together they are the items in another order. So it is of items of any type A, whatever type C is
-- measured between them.
abbrev pub EachOnce : Type 0 → Type 0 → Type 0
EachOnce A C = (r : Relations A C) (all : List A) → Permᴰ (listed_in (decide r all)) all

-- the number of items in s
abbrev pub item_count : List ℕ → ℕ
item_count s = length s / item_size

-- A refusal that is not superseding names a consistent, disagreeing, unsuperseded subset, with the chi-square of the two.
pub record Contest (s : List ℕ) (item against : ℕ) : Type 0 where
  pub an_item : against < item_count s
  pub consistent : item_consistent s against ≡ true
  pub subset : subset_at s against item ≡ true
  pub disagreeing : agrees_of (agreement_at s item against) ≡ false
  pub unsuperseded : is_superseded (item_relations s) (up_to (item_count s)) against ≡ false

-- A superseding one names a superset that is verified, passed, disagrees, and has strictly more standing.
pub record Succession (s : List ℕ) (item against : ℕ) : Type 0 where
  pub an_item : against < item_count s
  pub superset : subset_at s item against ≡ true
  pub disagreeing : agrees_of (agreement_at s against item) ≡ false
  pub verified : is_passed (item_verified s against) ≡ true
  pub more_standing : outstands_at s against item ≡ true

-- which of the two a refusal is, with the chi-square between them
pub data Names (s : List ℕ) (x : Refused ℕ ChiSquare) : Type 0 where
  contest : x.superseded ≡ false → x.chi2 ≡ chi_square_in (agreement_at s x.item x.against) → Contest s x.item x.against → Names s x
  succession : x.superseded ≡ true → x.chi2 ≡ chi_square_in (agreement_at s x.against x.item) → Succession s x.item x.against → Names s x

pub record Lawful (s : List ℕ) : Type 0 where
  -- every index falls in exactly one of the three
  pub each_once : Permᴰ (listed_in (outcome s)) (up_to (item_count s))
  -- ranked is empty only without items
  pub some_ranked : (outcome s).ranked ≡ [] → item_count s ≡ 0
  -- and each of them comes in rank before every later one
  pub by_rank : Ascending (ahead_at s) (outcome s).ranked
  -- what a refusal names
  pub names : (x : Refused ℕ ChiSquare) → Memᴰ x (outcome s).refused → Names s x

-- Every decision that is not refused keeps these laws.
abbrev pub DecisionsLawful : Type 0
DecisionsLawful = (s : List ℕ) → is_bad s ≡ false → Lawful s

-- ---- the order of the items

-- the bytes of item i
abbrev pub item_at : List ℕ → ℕ → List ℕ
item_at s i = take item_size (drop (i * item_size) s)

-- the items, first to last
abbrev pub items_in : List ℕ → List (List ℕ)
items_in s = map (item_at s) (up_to (item_count s))

-- t has the items of s in another order, that at i at `to i`
pub record Reordered (s t : List ℕ) (to : ℕ → ℕ) : Type 0 where
  pub places : Permᴰ (map to (up_to (item_count s))) (up_to (item_count t))
  pub items : (i : ℕ) → i < item_count s → item_at t (to i) ≡ item_at s i

-- a refusal with its items at their new places
abbrev pub renumbered : (ℕ → ℕ) → Refused ℕ ChiSquare → Refused ℕ ChiSquare
renumbered to x = record { item = to x.item; against = to x.against; chi2 = x.chi2; superseded = x.superseded }

-- what is decided is the same, at the new places: ranked in the same order, the others in that of the new places
pub record SameDecision (s t : List ℕ) (to : ℕ → ℕ) : Type 0 where
  pub ranked : (outcome t).ranked ≡ map to (outcome s).ranked
  pub dominated : Permᴰ (outcome t).dominated (map to (outcome s).dominated)
  pub refused : Permᴰ (outcome t).refused (map (renumbered to) (outcome s).refused)

-- What is decided does not depend on the order of the items.
abbrev pub OrderFree : Type 0
OrderFree = (s t : List ℕ) (to : ℕ → ℕ) → is_bad s ≡ false → is_bad t ≡ false → Reordered s t to → SameDecision s t to

-- ---- decided in ascending identity

-- an outcome by the identities of its items
abbrev pub by_identities : List ℕ → Outcome ℕ ChiSquare → Outcome (List ℕ) ChiSquare
by_identities s o = record {
  ranked = map (item_identity s) o.ranked;
  dominated = map (item_identity s) o.dominated;
  refused = map (λ x. record { item = item_identity s x.item; against = item_identity s x.against; chi2 = x.chi2; superseded = x.superseded }) o.refused;
}

-- Whoever gives the same items in another order gets the same identities, in the same order in each list, and the same of each refusal.
abbrev pub OneDecision : Type 0
OneDecision =
    (s t : List ℕ) → is_bad s ≡ false → is_bad t ≡ false → Permᴰ (items_in s) (items_in t)
    → by_identities s (sorted_outcome s) ≡ by_identities t (sorted_outcome t)

-- It is no other decision than that of the items in the order given: only the dominated and the refused may stand in another order, which is that of their identities.
pub record OnlyInOrder (s : List ℕ) : Type 0 where
  pub ranked : (sorted_outcome s).ranked ≡ (outcome s).ranked
  pub dominated : Permᴰ (sorted_outcome s).dominated (outcome s).dominated
  pub refused : Permᴰ (sorted_outcome s).refused (outcome s).refused
  pub dominated_ascend : Ascending (lower_at s) (sorted_outcome s).dominated
  pub refused_ascend : Ascending (λ x y. lower_at s x.item y.item) (sorted_outcome s).refused

abbrev pub NoOtherDecision : Type 0
NoOtherDecision = (s : List ℕ) → is_bad s ≡ false → OnlyInOrder s

-- ---- three nested sets

-- S in M in L, equal inputs, only S and L disagreeing: M is ranked, S dominated, L refused
abbrev pub OnlyTheEndsDisagree : Type 0
OnlyTheEndsDisagree =
    (agrees_of (agreement_of (claim_of S) (claim_of M)) ≡ true)
    × (agrees_of (agreement_of (claim_of M) (claim_of L)) ≡ true)
    × (agrees_of (agreement_of (claim_of S) (claim_of L)) ≡ false)

abbrev pub Position3 : Type 0
Position3 =
    decided_arrays (item S 1 ++ item M 2 ++ item L 3)
    ≡ record {
      answer = 0;
      ranked = indices (1 ∷ []);
      dominated = indices (0 ∷ []);
      refusals = refusals (record { refused = 2; kept = 0; chi2 = chi_square_in (agreement_of (claim_of S) (claim_of L)); superseded = false } ∷ []);
    }
