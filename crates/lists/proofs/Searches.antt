-- Laws of a loop over the indices of n items: what a test of the indices that are left says, and what the indices at which it holds are.
use Prim.Native.Nat.{ℕ, zero, suc, ◌+◌, ◌-◌, ◌≤◌, ◌<◌}
use mathlib.Core.Path.{◌≡◌, refl, sym, ap, ◌∙◌}
use mathlib.Core.Bool.{Bool, true, false}
use mathlib.Core.List.{List, [], ◌∷◌, ◌++◌, flat_map, append-nil, append_assoc}
use native.Mathlib.Omega.{arith}
use native.Mathlib.Nat.{sub-zero, add-zero, zero-add}
use native.Mathlib.Numerals.{add-one}
use lib.ListN.{length}
use Rattle.std.specs.List.{filter, list_any}
use Rattle.lists.specs.Ordered.{count_from, up_to}
use Rattle.lists.specs.Range.{filt}
use Rattle.lists.proofs.Bools.{by}
use Rattle.lists.proofs.Lists.{filter-few, count-length}

-- ---- a turn of a loop: the index is i, the end n

pub count-start : (n : ℕ) → count_from 0 n ≡ count_from 0 (n - 0)
count-start n = rw sub-zero refl

pub count_turn : (i n : ℕ) → i < n → count_from i (n - i) ≡ i ∷ count_from (i + 1) (n - (i + 1))
unfolding count_from
count_turn i n h = let z : n - i ≡ suc (n - (i + 1)) = omega arith in rw (z, add-one) refl

pub count-end : (i n : ℕ) → n ≤ i → count_from i (n - i) ≡ []
unfolding count_from
count-end i n h = let z : n - i ≡ 0 = omega arith in rw z refl

-- ---- a loop that returns where a test holds: t is what is computed, r what the called test gave

pub any-start : (g : ℕ → Bool) (n : ℕ) → list_any g (count_from 0 n) ≡ list_any g (count_from 0 (n - 0))
any-start g n = ap (list_any g) (count-start n)

pub any-ret : (t : Bool) (g : ℕ → Bool) (i n : ℕ) (r : Bool) → t ≡ list_any g (count_from i (n - i)) → i < n → r ≡ g i → r ≡ true → true ≡ t
any-ret t g i n r e h p q = sym (e ∙ ap (list_any g) (count_turn i n h) ∙ rw (sym p ∙ q) refl)

pub any-go : (t : Bool) (g : ℕ → Bool) (i n : ℕ) (r : Bool) → t ≡ list_any g (count_from i (n - i)) → i < n → r ≡ g i → r ≡ false → t ≡ list_any g (count_from (i + 1) (n - (i + 1)))
any-go t g i n r e h p q = e ∙ ap (list_any g) (count_turn i n h) ∙ rw (sym p ∙ q) refl

pub any_out : (t : Bool) (g : ℕ → Bool) (i n : ℕ) → t ≡ list_any g (count_from i (n - i)) → n ≤ i → false ≡ t
any_out t g i n e h = sym (e ∙ ap (list_any g) (count-end i n h))

pub ruleset searches = (any-start, any-ret, any-go, any_out)

-- ---- a loop that lists

-- one index more
count-snoc : (k n : ℕ) → count_from k (suc n) ≡ count_from k n ++ ((k + n) ∷ [])
unfolding count_from
count-snoc k zero = rw (add-zero k) refl
count-snoc k (suc n) = let e : k + suc n ≡ suc k + n = omega arith in rw e (ap (λ (l : List ℕ). k ∷ l) (count-snoc (suc k) n))

pub up_more : (i : ℕ) → up_to (i + 1) ≡ up_to i ++ (i ∷ [])
up_more i = rw add-one (rw (zero-add i) at (count-snoc 0 i))

filter-append : {A : Type 0} (g : A → Bool) (l m : List A) → filter g (l ++ m) ≡ filter g l ++ filter g m
filter-append g [] m = refl
filter-append g (x ∷ l) m = by (g x) (λ t. rw t (ap (λ k. x ∷ k) (filter-append g l m))) (λ t. rw t (filter-append g l m))

flat_append : {A B : Type 0} (f : A → List B) (l m : List A) → flat_map f (l ++ m) ≡ flat_map f l ++ flat_map f m
unfolding flat_map
flat_append f [] m = refl
flat_append f (x ∷ l) m = ap (λ k. f x ++ k) (flat_append f l m) ∙ sym (append_assoc (f x) (flat_map f l) (flat_map f m))

pub filter-hit : (g : ℕ → Bool) (i : ℕ) → g i ≡ true → filter g (up_to (i + 1)) ≡ filter g (up_to i) ++ (i ∷ [])
filter-hit g i e = ap (filter g) (up_more i) ∙ filter-append g (up_to i) (i ∷ []) ∙ rw e refl

pub filter-miss : (g : ℕ → Bool) (i : ℕ) → g i ≡ false → filter g (up_to (i + 1)) ≡ filter g (up_to i)
filter-miss g i e = ap (filter g) (up_more i) ∙ filter-append g (up_to i) (i ∷ []) ∙ rw e (append-nil (filter g (up_to i)))

pub flat-more : {B : Type 0} (f : ℕ → List B) (i : ℕ) → flat_map f (up_to (i + 1)) ≡ flat_map f (up_to i) ++ f i
unfolding flat_map
flat-more f i = ap (flat_map f) (up_more i) ∙ flat_append f (up_to i) (i ∷ []) ∙ ap (λ k. flat_map f (up_to i) ++ k) (append-nil (f i))

-- no more than there are indices
pub filter-up : (g : ℕ → Bool) (i : ℕ) → length (filter g (up_to i)) ≤ i
filter-up g i = let r = filter-few g (up_to i) in let e = count-length 0 i in omega arith

-- ---- the same by a range of indices

pub filter_range : (g : ℕ → Bool) (k n : ℕ) → filter g (count_from k n) ≡ filt g k n
unfolding count_from filt
filter_range g k zero = refl
filter_range g k (suc n) = rw (filter_range g (suc k) n) refl
