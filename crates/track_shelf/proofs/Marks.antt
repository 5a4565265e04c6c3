-- Marks that are set for the models of summaries, one after another.
use Rattle.std.proofs.Common.{ℕ, Bool, ◌≡◌, ◌≤◌, ◌<◌, ◌+◌, true, false, not, List, [], ◌∷◌, ◌||◌, refl, sym, ap, ◌∙◌, length, drop, get_or, add-one, drop-cons}
use lib.Dec.{eqb}
use lib.ListN.{set, replicate, length-set, length-replicate, drop_of_length-le}
use borrow.Author.Tests.{eqb-true, eq-eqb}
use Rattle.std.proofs.lemmas.List.{get_or-set_same, get_or-set_other, get_or-replicate}
use Rattle.std.specs.List.{list_any}
use Rattle.lists.proofs.Bools.{by, clash}
use Rattle.models.specs.Summary.{model_of}
use Rattle.models.specs.Models.{summaries_for, state_of}
use Rattle.models.specs.Missing.{is_missing}
use Rattle.models.proofs.Held.{some, missing-exactly}
use Rattle.track_shelf.specs.Steps.{Marks}

abbrev pub is_for : ℕ → List ℕ → Bool
is_for m p = eqb (model_of p) m

-- ---- a model has a summary where one of them is for it

some-for : (m : ℕ) (ps : List (List ℕ)) → some (summaries_for m ps) ≡ list_any (is_for m) ps
unfolding summaries_for
some-for m [] = refl
some-for m (p ∷ ps) = by (eqb (model_of p) m) (λ h. rw h refl) (λ h. rw h (some-for m ps))

twice : (b : Bool) → not (not b) ≡ b
twice true = refl
twice false = refl

has-exactly : (m : ℕ) (ps : List (List ℕ)) → not (is_missing (state_of m ps)) ≡ list_any (is_for m) ps
has-exactly m ps = ap not (missing-exactly m ps) ∙ twice (some (summaries_for m ps)) ∙ some-for m ps

-- ---- the walk: what is marked, and what is still to come

pub record Marking (ps : List (List ℕ)) (i : ℕ) (has : List Bool) : Type 0 where
  pub size : length has ≡ 256
  pub marks : (m : ℕ) → m < 256 → (get_or has m false || list_any (is_for m) (drop i ps)) ≡ list_any (is_for m) ps

pub none-marked : (ps : List (List ℕ)) → Marking ps 0 (replicate 256 false)
none-marked ps = record { size = length-replicate 256 false; marks = λ m h. rw (get_or-replicate 256 m false false h) refl }

set-mark : (has : List Bool) (k m : ℕ) → k < length has → get_or (set has k true) m false ≡ (eqb k m || get_or has m false)
set-mark has k m h =
    by (eqb k m)
    (λ q. rw q (ap (λ (i : ℕ). get_or (set has k true) i false) (sym (eqb-true k m q)) ∙ get_or-set_same has k true false h))
    (λ q. rw q (get_or-set_other has k m true false (λ e. clash (eq-eqb k m (sym e)) q)))

turn : (a x b c r : Bool) → (a || (x || b)) ≡ r → c ≡ (x || a) → (c || b) ≡ r
turn true true b c r e f = rw f e
turn true false b c r e f = rw f e
turn false true b c r e f = rw f e
turn false false b c r e f = rw f e

pub marked : (ps : List (List ℕ)) (i : ℕ) (has : List Bool) (k : ℕ) → i < length ps → k ≡ model_of (get_or ps i []) → k < 256 → Marking ps i has → Marking ps (i + 1) (set has k true)
marked ps i has k h e b f = record {
  size = length-set has k true ∙ f.size;
  marks = λ m s.
      let next : drop i ps ≡ get_or ps i [] ∷ drop (i + 1) ps = drop-cons ps i [] h ∙ rw (add-one i) refl in
      let before : (get_or has m false || (eqb k m || list_any (is_for m) (drop (i + 1) ps))) ≡ list_any (is_for m) ps = rw e (rw next at (f.marks m s)) in
      turn (get_or has m false) (eqb k m) (list_any (is_for m) (drop (i + 1) ps)) (get_or (set has k true) m false) (list_any (is_for m) ps) before (set-mark has k m (rw f.size b));
}

or-none : (a : Bool) → a ≡ (a || false)
or-none true = refl
or-none false = refl

pub all-marked : (ps : List (List ℕ)) (i : ℕ) (has : List Bool) → length ps ≤ i → Marking ps i has → Marks ps has
all-marked ps i has h f m s =
    let end : (get_or has m false || false) ≡ list_any (is_for m) ps = rw (drop_of_length-le ps h) at (f.marks m s) in
    or-none (get_or has m false) ∙ end ∙ sym (has-exactly m ps)
