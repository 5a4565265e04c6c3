-- What is known of the items of a list by their places.
use Rattle.std.proofs.Common.{◌≡◌, ℕ, zero, suc, ◌+◌, ◌≤◌, ◌<◌, Bool, true, false, cond, not, ◌&&◌, ◌||◌, List, [], ◌∷◌, ◌++◌, length, get_or, refl, sym, ap, ◌∙◌, arith}
use Rattle.std.specs.Prelude.{Option, Some, None, IfSome, slice_get, ◌⊎◌}
use Rattle.std.proofs.lemmas.Option.{slice_get_read, slice_get_cases}
use mathlib.Core.Logic.{inl, inr}
use mathlib.Core.Bool.{true≢false}
use Rattle.decision_items.specs.Values as V
use Rattle.std.specs.List.{filter}
use Rattle.lists.specs.Lists.{foremost}
use Rattle.lists.specs.Ordered.{up_to, count_from}
use Rattle.lists.proofs.Bools.{by}
use Rattle.lists.proofs.Searches.{filter-hit, filter-miss}
use Rattle.decision_rule.specs.First as F
use Rattle.decision_items.specs.declared.item.Item.{Item}
use Rattle.decision_rule.specs.Listed as L
use Rattle.decision_rule.specs.Listed.{relations}
use Rattle.decision_rule.specs.Rows as R
use Rattle.decision_rule.specs.Places.{has_place, set_of}
use Rattle.decision_rule.proofs.Sets.{has-set}

pub here : (l : List Item) (i : ℕ) (x : Item) → i < length l → x ≡ get_or l i x → slice_get l i ≡ Some x
here l i x h e = slice_get_read l (length l) i x refl h e

there : (l : List Item) (i : ℕ) (x : Item) → i < length l → slice_get l i ≡ Some (get_or l i x)
there [] i x h = absurd (omega arith)
there (y ∷ l) zero x h = refl
there (y ∷ l) (suc i) x h = there l i x (omega arith)

pub some-here : (l : List Item) (i : ℕ) → i < length l → (x : Item) × (slice_get l i ≡ Some x)
some-here l i h = go (slice_get_cases l i).1
  where
    go : ((x : Item) × (i < length l) × (slice_get l i ≡ Some x) × (get_or l i x ≡ x)) ⊎ ((length l ≤ i) × (slice_get l i ≡ None)) → (x : Item) × (slice_get l i ≡ Some x)
    go (inl (x, a, e, b)) = (x, e)
    go (inr (a, e)) = absurd (omega (arith, a, h))

-- what is said of two of them, as it is read
pub two-at : {B : Type 0} (d : B) (f : Item → Item → B) (l : List Item) (i j : ℕ) (x y : Item) → i < length l → j < length l → f (get_or l i x) (get_or l j y) ≡ L.at_two d f l i j
two-at d f l i j x y h k = rw (there l i x h, there l j y k) refl

pub within-at : (l : List Item) (i j : ℕ) → i < length l → j < length l → (relations l).within j i ≡ (L.has_subset l i j && L.have_same_inputs l j i)
within-at l i j h k = let (x, e) = some-here l i h in let (y, d) = some-here l j k in rw (e, d) refl

pub both : {b c : Bool} {p q : Bool} → b ≡ p → b ≡ true → c ≡ q → c ≡ true → (p && q) ≡ true
both a t b u = rw (sym a ∙ t, sym b ∙ u) refl

pub first-not : {b : Bool} (p q : Bool) → b ≡ p → b ≡ false → (p && q) ≡ false
first-not p q a t = rw (sym a ∙ t) refl

pub second-not : {b : Bool} (p q : Bool) → b ≡ q → b ≡ false → (p && q) ≡ false
second-not p q a t = rw (sym a ∙ t) (by p (λ u. rw u refl) (λ u. rw u refl))

-- ---- tests
pub super-yes : {e o : Bool} (p d q : Bool) → e ≡ not d → e ≡ false → p ≡ true → o ≡ not q → o ≡ (p && (d && not q))
super-yes p true q a b c f = rw c f
super-yes p false q a b c f = absurd (true≢false (sym a ∙ b))

pub super-no : {e : Bool} (p d q : Bool) → e ≡ not d → e ≡ true → false ≡ (p && (d && not q))
super-no true true q a b = absurd (true≢false (sym b ∙ a))
super-no false d q a b = refl
super-no true false q a b = refl

pub refused-so : {e : Bool} (s p a : Bool) → s ≡ false → p ≡ false → e ≡ not a → not e ≡ (s || (not p && (not s && a)))
refused-so s p true f g h = rw (f, g, h) refl
refused-so s p false f g h = rw (f, g, h) refl

pub refused-not : (s p a : Bool) → s ≡ false → p ≡ true → false ≡ (s || (not p && (not s && a)))
refused-not s p a f g = rw (f, g) refl

pub disagrees-at : (l : List Item) (i j : ℕ) → i < length l → j < length l
    → (relations l).disagrees i j ≡ (L.is_consistent l j && (L.has_subset l i j && L.apart_at l i j))
unfolding V.disagrees
disagrees-at l i j h k = let (x, e) = some-here l i h in let (y, d) = some-here l j k in rw (e, d) refl

pub apart-no : (l : List Item) (i j : ℕ) → i < length l → j < length l → L.has_subset l i j ≡ false → (relations l).disagrees i j ≡ false
apart-no l i j h k e = disagrees-at l i j h k ∙ rw e (by (L.is_consistent l j) (λ t. rw t refl) (λ t. rw t refl))

pub resists-no : (l : List Item) (i j : ℕ) → (relations l).disagrees i j ≡ false → R.resists l i j ≡ false
resists-no l i j e = rw e refl

pub resists-over : (l : List Item) (i j : ℕ) → (relations l).outstands i j ≡ true → R.resists l i j ≡ false
resists-over l i j e = rw e (by ((relations l).disagrees i j) (λ t. rw t refl) (λ t. rw t refl))

pub resists-yes : (l : List Item) (i j : ℕ) → (relations l).disagrees i j ≡ true → (relations l).outstands i j ≡ false → R.resists l i j ≡ true
resists-yes l i j e f = rw (e, f) refl

-- ---- the rows
pub row-none : (l : List Item) (i : ℕ) → record { disagreeing = record { word = 0 }; resisting = record { word = 0 }; subsets = record { word = 0 } } ≡ R.row l i 0
unfolding count_from
row-none l i = refl

pub row-of : {d q s : ℕ} (l : List Item) (i m : ℕ) → d ≡ set_of ((relations l).disagrees i) m → q ≡ set_of (R.resists l i) m → s ≡ set_of (L.has_subset l i) m
    → record { disagreeing = record { word = d }; resisting = record { word = q }; subsets = record { word = s } } ≡ R.row l i m
row-of l i m a b c = rw (a, b, c) refl

-- ---- the lowest
snoc-first : (before : ℕ → ℕ → Bool) (x : ℕ) (l : List ℕ) (k : ℕ) → foremost before x (l ++ (k ∷ [])) ≡ cond (before k (foremost before x l)) k (foremost before x l)
unfolding foremost
snoc-first before x [] k = refl
snoc-first before x (y ∷ l) k = snoc-first before (cond (before y x) y x) l k

first-snoc : (before : ℕ → ℕ → Bool) (l : List ℕ) (k : ℕ) → F.better before (F.foremost_of before l) k ≡ F.foremost_of before (l ++ (k ∷ []))
unfolding foremost
first-snoc before [] k = refl
first-snoc before (x ∷ l) k = ap Some (sym (snoc-first before x l k))

pub first-hit : {b : Option ℕ} (before : ℕ → ℕ → Bool) (test : ℕ → Bool) (i : ℕ) → b ≡ F.foremost_of before (filter test (up_to i)) → test i ≡ true
    → F.better before b i ≡ F.foremost_of before (filter test (up_to (i + 1)))
first-hit before test i e t = ap (λ o. F.better before o i) e ∙ first-snoc before (filter test (up_to i)) i ∙ ap (F.foremost_of before) (sym (filter-hit test i t))

pub first-miss : {b : Option ℕ} (before : ℕ → ℕ → Bool) (test : ℕ → Bool) (i : ℕ) → b ≡ F.foremost_of before (filter test (up_to i)) → test i ≡ false
    → b ≡ F.foremost_of before (filter test (up_to (i + 1)))
first-miss before test i e t = e ∙ ap (F.foremost_of before) (sym (filter-miss test i t))

pub first-none : (before : ℕ → ℕ → Bool) (test : ℕ → Bool) → None ≡ F.foremost_of before (filter test (up_to 0))
unfolding count_from
first-none before test = refl

pub better-within : (before : ℕ → ℕ → Bool) (b : Option ℕ) (i n : ℕ) → i < n → IfSome b (λ k. k < n) → IfSome (F.better before b i) (λ k. k < n)
better-within before None i n h w = h
better-within before (Some b) i n h w = by (before i b) (λ t. rw t h) (λ t. rw t w)

-- ---- what a search in a set of places found
filter-ext : (p q : ℕ → Bool) (k n : ℕ) → ((i : ℕ) → i < k + n → p i ≡ q i) → filter p (count_from k n) ≡ filter q (count_from k n)
unfolding count_from
filter-ext p q k zero e = refl
filter-ext p q k (suc n) e = rw (e k (omega arith), filter-ext p q (suc k) n (λ i h. e i (omega arith))) refl

pub members : {w : ℕ} (p : ℕ → Bool) (n : ℕ) → w ≡ set_of p n → filter (has_place w) (up_to n) ≡ filter p (up_to n)
members {w} p n e = filter-ext (has_place w) p 0 n (λ i h. let k : i < n = omega arith in ap (λ v. has_place v i) e ∙ has-set p n i k)
