-- What the order of a table's keys gives, for every width: the position of a key says whether it is held, insertion there and removal keep the order,
-- and two tables in which the same keys are held with the same contents are equal.
use Rattle.std.proofs.Common.{ℕ, zero, suc, ◌≤◌, ◌<◌, ◌≡◌, refl, sym, Bool, true, false, ◌&&◌, List, [], ◌∷◌, arith, ltb, length, get_or, take, take-append-drop}
use Rattle.std.proofs.lemmas.Grind.{common_steps}
use Rattle.octets.specs.Order.{is_before, same}
use Rattle.lists.proofs.Bools.{and_right}
use Rattle.octets.proofs.Comparison.{before-trans, before-irrefl, before-asym, before-le, tri, same_refl, less-same, more_same, same-eq}
use Rattle.tables.specs.Places.{ascending_from, ascending, holds, lookup}
use Rattle.tables.specs.Positions.{rank}

-- ---- one place and those after it

pub holds-none : (k : ℕ) (key : List ℕ) → holds k key [] ≡ false
unfolding holds
holds-none k key = refl

module _ (k : ℕ) (key p : List ℕ) (ps : List (List ℕ)) where
  pub holds-here : same (take k p) key ≡ true → holds k key (p ∷ ps) ≡ true
  unfolding holds
  holds-here h = rw h refl

  pub holds_later : same (take k p) key ≡ false → holds k key (p ∷ ps) ≡ holds k key ps
  unfolding holds
  holds_later h = rw h refl

-- places that ascend from a key hold no key at or before it
pub none_below : (k : ℕ) (key from : List ℕ) (ps : List (List ℕ)) → is_before from key ≡ false → ascending_from k from ps ≡ true → holds k key ps ≡ false
unfolding holds ascending_from
none_below k key from [] g h = refl
none_below k key from (p ∷ ps) g h = grind (arith, none_below k key (take k p) ps, before-le key from (take k p), before-asym, more_same)

-- a lower start does as well
pub from-weaken : (k : ℕ) (a b : List ℕ) (ps : List (List ℕ)) → is_before a b ≡ true → ascending_from k b ps ≡ true → ascending_from k a ps ≡ true
unfolding ascending_from
from-weaken k a b [] g h = refl
from-weaken k a b (p ∷ ps) g h = grind (arith, before-trans a b (take k p))

-- what ascends from a key ascends
pub from-ascending : (k : ℕ) (from : List ℕ) (ps : List (List ℕ)) → ascending_from k from ps ≡ true → ascending k ps ≡ true
unfolding ascending ascending_from
from-ascending k from [] h = refl
from-ascending k from (p ∷ ps) h = and_right _ _ h

-- ---- the position of a key

pub rank-le : (k : ℕ) (key : List ℕ) (ps : List (List ℕ)) → rank k key ps ≤ length ps
unfolding rank
rank-le k key [] = omega arith
rank-le k key (p ∷ ps) = grind (arith, rank-le k key ps)

-- each place below the position comes before the key
rank-before : (k : ℕ) (key : List ℕ) (ps : List (List ℕ)) (i : ℕ) → i < rank k key ps → is_before (take k (get_or ps i [])) key ≡ true
unfolding rank
rank-before k key [] i h = absurd (omega arith)
rank-before k key (p ∷ ps) zero h = grind arith
rank-before k key (p ∷ ps) (suc i) h = grind (arith, rank-before k key ps i)

-- places that ascend from a key all come after it
from_each : (k : ℕ) (from : List ℕ) (ps : List (List ℕ)) (i : ℕ) → ascending_from k from ps ≡ true → i < length ps → is_before from (take k (get_or ps i [])) ≡ true
unfolding ascending_from
from_each k from [] i h l = absurd (omega arith)
from_each k from (p ∷ ps) zero h l = grind arith
from_each k from (p ∷ ps) (suc i) h l = grind (arith, from_each k from ps i, from-weaken k from (take k p) ps)

-- where places ascend, the key of an earlier one comes before that of a later
pub keys-ascend : (k : ℕ) (ps : List (List ℕ)) (i j : ℕ) → ascending k ps ≡ true → i < j → j < length ps → is_before (take k (get_or ps i [])) (take k (get_or ps j [])) ≡ true
unfolding ascending
keys-ascend k [] i j h u l = absurd (omega arith)
keys-ascend k (p ∷ ps) i zero h u l = absurd (omega arith)
keys-ascend k (p ∷ ps) zero (suc j) h u l = from_each k (take k p) ps j h (omega arith)
keys-ascend k (p ∷ ps) (suc i) (suc j) h u l = keys-ascend k ps i j (from-ascending k (take k p) ps h) (omega arith) (omega arith)

-- where places ascend, one that comes before the key lies below its position
pub rank-above : (k : ℕ) (key : List ℕ) (ps : List (List ℕ)) (i : ℕ) → ascending k ps ≡ true → i < length ps → is_before (take k (get_or ps i [])) key ≡ true → i < rank k key ps
unfolding ascending rank
rank-above k key [] i h l b = absurd (omega arith)
rank-above k key (p ∷ ps) zero h l b = grind arith
rank-above k key (p ∷ ps) (suc i) h l b = grind (arith, rank-above k key ps i, from-ascending k (take k p) ps, from_each k (take k p) ps i, before-trans (take k p) (take k (get_or ps i [])) key)

-- and one that does not, at it or after it
pub rank_below : (k : ℕ) (key : List ℕ) (ps : List (List ℕ)) (i : ℕ) → is_before (take k (get_or ps i [])) key ≡ false → rank k key ps ≤ i
rank_below k key ps i b = grind (arith, rank-before k key ps i)

-- place i has the key
abbrev pub has_key : ℕ → List ℕ → List (List ℕ) → ℕ → Bool
has_key k key ps i = ltb i (length ps) && same (take k (get_or ps i [])) key

-- a key is held exactly when it stands at its position
pub holds-at-rank : (k : ℕ) (key : List ℕ) (ps : List (List ℕ)) → ascending k ps ≡ true → holds k key ps ≡ has_key k key ps (rank k key ps)
unfolding holds rank ascending
holds-at-rank k key [] h = refl
holds-at-rank k key (p ∷ ps) h = grind (arith, common_steps, holds-at-rank k key ps, from-ascending k (take k p) ps, none_below k key (take k p) ps, less-same (take k p) key)

-- ---- a table is what it holds

pub absent : (k : ℕ) (key : List ℕ) (ps : List (List ℕ)) → holds k key ps ≡ false → lookup k key ps ≡ []
unfolding holds lookup
absent k key [] h = refl
absent k key (p ∷ ps) h = grind (arith, absent k key ps)

-- the first of two tables in which the same keys are held
first_key : (k : ℕ) (p q : List ℕ) (ps qs : List (List ℕ)) → ascending_from k (take k q) qs ≡ true
    → ((key : List ℕ) → holds k key (p ∷ ps) ≡ holds k key (q ∷ qs)) → is_before (take k p) (take k q) ≡ true → ⊥
unfolding holds
first_key k p q ps qs h e l = grind (arith, e (take k p), same_refl (take k p), more_same (take k q) (take k p), none_below k (take k p) (take k q) qs, before-asym (take k p) (take k q))

-- two tables in which the same keys are held with the same contents: their first places, and what is held in the rest
module _ (k : ℕ) (p q : List ℕ) (ps qs : List (List ℕ)) (u : ascending_from k (take k p) ps ≡ true) (v : ascending_from k (take k q) qs ≡ true)
    (e : (key : List ℕ) → holds k key (p ∷ ps) ≡ holds k key (q ∷ qs)) (f : (key : List ℕ) → lookup k key (p ∷ ps) ≡ lookup k key (q ∷ qs)) where
  same_key : take k p ≡ take k q
  same_key = grind (arith, tri (take k p) (take k q), first_key k p q ps qs v e, first_key k q p qs ps u (λ (key : List ℕ). sym (e key)))

  same_first : p ≡ q
  unfolding lookup
  same_first = grind (arith, same_key, f (take k p), same_refl (take k p), take-append-drop k p, take-append-drop k q)

  holds-rest : (key : List ℕ) → holds k key ps ≡ holds k key qs
  unfolding holds
  holds-rest key = grind (arith, same_key, e key, same-eq (take k p) key, before-irrefl key, none_below k key (take k p) ps, none_below k key (take k q) qs)

  lookup-rest : (key : List ℕ) → lookup k key ps ≡ lookup k key qs
  unfolding lookup
  lookup-rest key =
      grind (arith, same_key, f key, same-eq (take k p) key, before-irrefl key, none_below k key (take k p) ps, none_below k key (take k q) qs, absent k key ps, absent k key qs)

pub ascending-ext : (k : ℕ) (ps qs : List (List ℕ)) → ascending k ps ≡ true → ascending k qs ≡ true
    → ((key : List ℕ) → holds k key ps ≡ holds k key qs) → ((key : List ℕ) → lookup k key ps ≡ lookup k key qs) → ps ≡ qs
unfolding holds ascending
ascending-ext k [] [] g h e f = refl
ascending-ext k [] (q ∷ qs) g h e f = grind (arith, e (take k q), same_refl)
ascending-ext k (p ∷ ps) [] g h e f = grind (arith, e (take k p), same_refl)
ascending-ext k (p ∷ ps) (q ∷ qs) g h e f =
    cc (
      same_first k p q ps qs g h e f,
      ascending-ext k ps qs (from-ascending k (take k p) ps g) (from-ascending k (take k q) qs h) (holds-rest k p q ps qs g h e f) (lookup-rest k p q ps qs g h e f),
    )
