-- Two lists that ascend, gone through together: what one step says of membership.
use Prim.Native.Nat.{ℕ, zero, suc, ◌+◌, ◌-◌, ◌≤◌, ◌<◌}
use mathlib.Core.Path.{◌≡◌, refl, ap}
use mathlib.Core.Bool.{true, false, cond}
use mathlib.Core.List.{List, [], ◌∷◌}
use native.Mathlib.Omega.{arith}
use lib.Dec.{ltb}
use Rattle.record.specs.Fields.{tag_at, tags_from}
use Rattle.record.specs.Formed.{ascends, ascends_from}
use Rattle.record.specs.Relations.{member, all_in, any_in}

-- ---- tags by index

pub tags-step : (r : List ℕ) (n i : ℕ) → i < n → tags_from r i (n - i) ≡ tag_at r i ∷ tags_from r (i + 1) (n - (i + 1))
unfolding tags_from
tags-step r n i h = let e : n - i ≡ suc (n - (i + 1)) = omega arith in rw e refl

pub tags-end : (r : List ℕ) (n i : ℕ) → n ≤ i → tags_from r i (n - i) ≡ []
unfolding tags_from
tags-end r n i h = let e : n - i ≡ 0 = omega arith in rw e refl

pub tags-begin : (r : List ℕ) (n : ℕ) → tags_from r 0 n ≡ tags_from r 0 (n - 0)
tags-begin r n = ap (tags_from r 0) (omega arith)

-- ---- ascending lists

ascends-tail : (x : ℕ) (l : List ℕ) → ascends (x ∷ l) ≡ true → ascends l ≡ true
unfolding ascends ascends_from
ascends-tail x [] h = refl
ascends-tail x (y ∷ l) h = grind arith

-- a number at or below where a list ascends from is not in it
not-below : (w x : ℕ) (l : List ℕ) → w ≤ x → ascends_from x l ≡ true → member w l ≡ false
unfolding member ascends_from
not-below w x [] g h = refl
not-below w x (y ∷ l) g h = grind (arith, not-below w y l)

-- and no number of the list is it
all_above : (y : ℕ) (k l : List ℕ) (x : ℕ) → y ≤ x → ascends_from x k ≡ true → all_in k (y ∷ l) ≡ all_in k l
unfolding all_in member ascends_from
all_above y [] l x g h = refl
all_above y (z ∷ k) l x g h = grind (arith, all_above y k l z)

any-above : (y : ℕ) (k l : List ℕ) (x : ℕ) → y ≤ x → ascends_from x k ≡ true → any_in k (y ∷ l) ≡ any_in k l
unfolding any_in member ascends_from
any-above y [] l x g h = refl
any-above y (z ∷ k) l x g h = grind (arith, any-above y k l z)

-- ---- one step through both lists

module _ (x y : ℕ) (k l : List ℕ) (p : ascends (x ∷ k) ≡ true) (q : ascends (y ∷ l) ≡ true) where
  all-turn : all_in (x ∷ k) (y ∷ l) ≡ cond (ltb x y) false (cond (ltb y x) (all_in (x ∷ k) l) (all_in k l))
  unfolding all_in member ascends
  all-turn = grind (arith, not-below x y l, all_above y k l x)

  any-turn : any_in (x ∷ k) (y ∷ l) ≡ cond (ltb x y) (any_in k (y ∷ l)) (cond (ltb y x) (any_in (x ∷ k) l) true)
  unfolding any_in member ascends
  any-turn = grind (arith, not-below x y l, any-above y k l x)

any-end : (k : List ℕ) → any_in k [] ≡ false
unfolding any_in member
any-end [] = refl
any-end (x ∷ k) = any-end k

-- tags that ascend, whose last is below the first of a list that ascends, are below that first, and none is in the list
pub none_below : (r : List ℕ) (y : ℕ) (l : List ℕ) → ascends (y ∷ l) ≡ true → (k i : ℕ) → ascends (tags_from r i (suc k)) ≡ true → tag_at r (i + k) < y → (tag_at r i < y) × (any_in (tags_from r i (suc k)) (y ∷ l) ≡ false)
unfolding tags_from any_in member ascends ascends_from
none_below r y l q zero i p h = grind (arith, not-below (tag_at r i) y l)
none_below r y l q (suc k) i p h = let e : i + suc k ≡ i + 1 + k = omega arith in grind (arith, not-below (tag_at r i) y l, none_below r y l q k (i + 1))

-- ---- the same at two records' tags, the i-th of one and the j-th of the other

pub next-ascends : (r : List ℕ) (n i : ℕ) → ascends (tags_from r i (n - i)) ≡ true → ascends (tags_from r (i + 1) (n - (i + 1))) ≡ true
unfolding ascends
next-ascends r n i p = grind (arith, tags-step r n i, tags-end r n (i + 1), ascends-tail (tag_at r i) (tags_from r (i + 1) (n - (i + 1))))

module _ (a b : List ℕ) (n m i j : ℕ) (h : i < n) where
  pub contained-past : m ≤ j → all_in (tags_from a i (n - i)) (tags_from b j (m - j)) ≡ false
  unfolding all_in member
  contained-past g = rw (tags-step a n i h, tags-end b m j g) refl

  pub shared-past : m ≤ j → any_in (tags_from a i (n - i)) (tags_from b j (m - j)) ≡ false
  shared-past g = rw (tags-end b m j g) (any-end (tags_from a i (n - i)))

  module _ (g : j < m) (p : ascends (tags_from a i (n - i)) ≡ true) (q : ascends (tags_from b j (m - j)) ≡ true) where
    pub contained-turn : all_in (tags_from a i (n - i)) (tags_from b j (m - j))
        ≡ cond (ltb (tag_at a i) (tag_at b j)) false (cond (ltb (tag_at b j) (tag_at a i)) (all_in (tags_from a i (n - i)) (tags_from b (j + 1) (m - (j + 1)))) (all_in (tags_from a (i + 1) (n - (i + 1))) (tags_from b (j + 1) (m - (j + 1)))))
    contained-turn = rw (tags-step a n i h, tags-step b m j g) (all-turn _ _ _ _ (rw (tags-step a n i h) at p) (rw (tags-step b m j g) at q))

    pub shared-turn : any_in (tags_from a i (n - i)) (tags_from b j (m - j))
        ≡ cond (ltb (tag_at a i) (tag_at b j)) (any_in (tags_from a (i + 1) (n - (i + 1))) (tags_from b j (m - j))) (cond (ltb (tag_at b j) (tag_at a i)) (any_in (tags_from a i (n - i)) (tags_from b (j + 1) (m - (j + 1)))) true)
    shared-turn = rw (tags-step a n i h, tags-step b m j g) (any-turn _ _ _ _ (rw (tags-step a n i h) at p) (rw (tags-step b m j g) at q))
