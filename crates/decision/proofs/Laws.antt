-- The laws of a decision, over any items: every item falls in exactly one of ranked, dominated, refused; ranked is empty only without
-- items; what a refusal names; the order of the items makes no difference.
use mathlib.Core.Path.{◌≡◌, refl, sym, ap, ap₂, ◌∙◌, subst}
use mathlib.Core.Bool.{Bool, true, false, not, ◌&&◌, ◌||◌}
use mathlib.Core.Logic.{◌⊎◌, inl, inr}
use mathlib.Core.List.Memᴰ
use mathlib.Core.List.Permᴰ
use mathlib.Core.List.{List, [], ◌∷◌, ◌++◌, map, flat_map, Memᴰ, Permᴰ}
use Prim.Native.Nat.{ℕ, ◌≤◌, ◌<◌}
use native.Mathlib.Omega.{arith}
use native.Mathlib.Nat.{le_trans, le_of_lt}
use lib.Dec.{leb}
use borrow.Author.Tests.{leb-true, leb-false}
use Rattle.std.specs.List.{filter, list_any}
use Rattle.lists.proofs.Bools.{clash, no_true, and_both, and_left, and_right, not_t, not_f, by, or}
use Rattle.lists.specs.Lists.{foremost}
use Rattle.lists.specs.Ordered.{Ascending}
use Rattle.lists.proofs.Orders.{perm-mem}
use Rattle.lists.proofs.Lists.{any-in, any-of, any-perm, any_same, filter-in, filter-of, filter-some, filter_same, filter-perm, sort-perm, foremost-in, flat_in, flat-same, flat-perm}
use Rattle.lists.proofs.Sorting.{Strict, strict-sub, foremost-perm, sort-same, ascending-filter, ascending-flat}
use Rattle.decision_rule.specs.Standing.{Relations, supersedes, replaces, is_superseded, opposes, is_contested, is_refused, is_covered, replaced, opposed, refusal_of, decide}
use Rattle.decision_rule.specs.Outcome.{Refused}
use Rattle.decision.specs.Claims.{listed_in}

total : (a b : ℕ) → (a ≤ b) ⊎ (b ≤ a)
total a b = by (leb a b) (λ p. inl (leb-true a b p)) (λ p. inr (le_of_lt (leb-false a b p)))

-- of the members that pass a test one that is best by a relation that is total and transitive
module _ {A : Type 0} (R : A → A → Type 0) (tot : (a b : A) → R a b ⊎ R b a) (trans : (a b c : A) → R a b → R b c → R a c) (test : A → Bool) where
  best_of : (l : List A) → list_any test l ≡ true → (x : A) × Memᴰ x l × (test x ≡ true) × ((y : A) → Memᴰ y l → test y ≡ true → R x y)
  best_of [] e = clash {b = true} refl (sym e)
  best_of (x ∷ l) e =
      by (list_any test l)
      (λ p. let r = best_of l p in
      by (test x)
      (λ q. or (tot x r.0)
      (λ u. (x, Memᴰ.head refl, q, λ y m t. or (Memᴰ.cases_cons m) (λ z. at x y (sym z) (self x)) (λ k. trans x r.0 y u (r.3 y k t))))
      (λ u. (r.0, Memᴰ.tail r.1, r.2, λ y m t. or (Memᴰ.cases_cons m) (λ z. at r.0 y (sym z) u) (λ k. r.3 y k t))))
      (λ q. (r.0, Memᴰ.tail r.1, r.2, λ y m t. or (Memᴰ.cases_cons m) (λ z. clash (ap test (sym z) ∙ t) q) (λ k. r.3 y k t))))
      (λ p. by (test x)
      (λ q. (x, Memᴰ.head refl, q, λ y m t. or (Memᴰ.cases_cons m) (λ z. at x y (sym z) (self x)) (λ k. clash (any-of test l y k t) p)))
      (λ q. clash e (rw (q, p) refl)))
    where
      self : (a : A) → R a a
      self a = or (tot a a) (λ w. w) (λ w. w)

      at : (a y : A) {x : A} → x ≡ y → R a x → R a y
      at a y z w = subst (R a) z w

module _ {A C : Type 0} (r : Relations A C) (all : List A) where
  -- ---- each item falls in one of the three

  -- a refused item has one refusal, another none
  pub refused-one : (f : A) → is_refused r all f ≡ true → (x : Refused A C) × (refusal_of r all f ≡ x ∷ []) × (x.item ≡ f)
  unfolding is_refused is_contested is_superseded refusal_of
  refused-one f e =
      by (list_any (replaces r all f) all)
      (λ p. let w = filter-some (replaces r all f) all p in
      let k = foremost r.lower w.0 w.1 in
      (record { item = f; against = k; chi2 = r.chi_square k f; superseded = true }, rw (p, w.2) refl, refl))
      (λ p. let c = rw p at e in
      let o = and_right (not (supersedes r all f)) (list_any (opposes r all f) all) c in
      let w = filter-some (opposes r all f) all o in
      let k = foremost r.lower w.0 w.1 in
      (record { item = f; against = k; chi2 = r.chi_square f k; superseded = false }, rw (p, c, w.2) refl, refl))

  pub refused_none : (f : A) → is_refused r all f ≡ false → refusal_of r all f ≡ []
  unfolding is_refused refusal_of
  refused_none f e =
      by (is_superseded r all f)
      (λ p. clash {b = true} refl (rw p at e))
      (λ p. rw (p, rw p at e) refl)

  -- those of a list, in their three lists, are those of the list
  three : (l : List A)
      → Permᴰ (filter (λ f. not (is_refused r all f) && not (is_covered r all f)) l ++ (filter (λ f. not (is_refused r all f) && is_covered r all f) l ++ map (λ x. x.item) (flat_map (refusal_of r all) l))) l
  unfolding flat_map
  three [] = Permᴰ.nil
  three (f ∷ l) =
      let a = filter (λ f. not (is_refused r all f) && not (is_covered r all f)) l in
      let b = filter (λ f. not (is_refused r all f) && is_covered r all f) l in
      let c = map (λ (x : Refused A C). x.item) (flat_map (refusal_of r all) l) in
      let w = three l in
      by (is_refused r all f)
      (λ p. let x = refused-one f p in
      rw (p, x.1)
      (Permᴰ.trans (Permᴰ.append_left a (Permᴰ.middle x.0.item b c))
      (Permᴰ.trans (Permᴰ.middle x.0.item a (b ++ c)) (Permᴰ.cons x.2 w))))
      (λ p. by (is_covered r all f)
      (λ q. rw (p, q, refused_none f p) (Permᴰ.trans (Permᴰ.middle f a (b ++ c)) (Permᴰ.cons refl w)))
      (λ q. rw (p, q, refused_none f p) (Permᴰ.cons refl w)))

  pub listed-once : Permᴰ (listed_in (decide r all)) all
  unfolding decide
  listed-once =
      let g : A → Bool = λ f. not (is_refused r all f) && not (is_covered r all f) in
      Permᴰ.trans (Permᴰ.append_right ((decide r all).dominated ++ map (λ (x : Refused A C). x.item) (decide r all).refused) (sort-perm r.ahead (filter g all))) (three all)

  -- ---- what a refusal names

  pub superseded-in : (f : A) → is_superseded r all f ≡ true → (g : A) × Memᴰ g all × (replaces r all f g ≡ true)
  unfolding is_superseded
  superseded-in f e = any-in (replaces r all f) all e

  pub contested-in : (f : A) → is_contested r all f ≡ true → (g : A) × Memᴰ g all × (opposes r all f g ≡ true)
  unfolding is_contested
  contested-in f e = any-in (opposes r all f) all (and_right (not (is_superseded r all f)) _ (and_right (not (supersedes r all f)) _ e))

  supersedes-over : (f g : A) → Memᴰ g all → supersedes r all f ≡ true → r.disagrees f g ≡ true → r.outstands f g ≡ true
  unfolding supersedes
  supersedes-over f g m s d =
      by (r.outstands f g) (λ p. p)
      (λ p. clash (any-of (λ h. r.disagrees f h && not (r.outstands f h)) all g m (and_both _ _ d (not_f _ p)))
      (not_t _ (and_right (list_any (r.disagrees f) all) _ (and_right (r.passed f) _ s))))

  passed-of : (f : A) → supersedes r all f ≡ true → r.passed f ≡ true
  unfolding supersedes
  passed-of f s = and_left (r.passed f) (list_any (r.disagrees f) all && not (list_any (λ g. r.disagrees f g && not (r.outstands f g)) all)) s

  -- one that opposes it, or one that takes its place
  pub data Named (x : Refused A C) : Type 0 where
    opponent : x.superseded ≡ false → x.chi2 ≡ r.chi_square x.item x.against → Memᴰ x.against all
        → r.disagrees x.item x.against ≡ true → is_superseded r all x.against ≡ false → Named x
    successor : x.superseded ≡ true → x.chi2 ≡ r.chi_square x.against x.item → Memᴰ x.against all
        → r.disagrees x.against x.item ≡ true → r.passed x.against ≡ true → r.outstands x.against x.item ≡ true → Named x

  single : {x y : Refused A C} → Memᴰ x (y ∷ []) → x ≡ y
  single m = or (Memᴰ.cases_cons m) (λ e. e) (λ k. absurd (Memᴰ.not-nil k))

  replaced-names : (f : A) → Memᴰ f all → (l : List A) → ((g : A) → Memᴰ g l → Memᴰ g all × (replaces r all f g ≡ true)) → (x : Refused A C) → Memᴰ x (replaced r all f l) → Named x
  replaced-names f m [] w x n = absurd (Memᴰ.not-nil n)
  replaced-names f m (g ∷ l) w x n =
      let k = foremost r.lower g l in
      let u = w k (foremost-in r.lower g l) in
      let s = and_left (supersedes r all k) (r.disagrees k f) u.1 in
      let d = and_right (supersedes r all k) (r.disagrees k f) u.1 in
      subst Named (sym (single n)) (successor refl refl u.0 d (passed-of k s) (supersedes-over k f m s d))

  opposed-names : (f : A) (l : List A) → ((g : A) → Memᴰ g l → Memᴰ g all × (opposes r all f g ≡ true)) → (x : Refused A C) → Memᴰ x (opposed r all f l) → Named x
  opposed-names f [] w x n = absurd (Memᴰ.not-nil n)
  opposed-names f (g ∷ l) w x n =
      let k = foremost r.lower g l in
      let u = w k (foremost-in r.lower g l) in
      subst Named (sym (single n))
      (opponent refl refl u.0 (and_left (r.disagrees f k) (not (is_superseded r all k)) u.1) (not_t _ (and_right (r.disagrees f k) (not (is_superseded r all k)) u.1)))

  refusal-names : (f : A) → Memᴰ f all → (x : Refused A C) → Memᴰ x (refusal_of r all f) → Named x
  unfolding refusal_of
  refusal-names f m x n =
      by (is_superseded r all f)
      (λ p. replaced-names f m (filter (replaces r all f) all) (λ g k. filter-in (replaces r all f) all g k) x (rw p at n))
      (λ p. by (is_contested r all f)
      (λ q. opposed-names f (filter (opposes r all f) all) (λ g k. filter-in (opposes r all f) all g k) x (rw (p, q) at n))
      (λ q. absurd (Memᴰ.not-nil (rw (p, q) at n))))

  pub refused-names : (x : Refused A C) → Memᴰ x (decide r all).refused → Named x
  unfolding decide
  refused-names x m = let w = flat_in (refusal_of r all) all x m in refusal-names w.0 w.1 x w.2

-- ---- ranked is empty only without items

-- what is asked of the relations: standing and the number of tags are numbers
pub record Sound {A C : Type 0} (r : Relations A C) : Type 0 where
  pub standing : A → ℕ
  pub size : A → ℕ
  pub over-is : (f g : A) → r.outstands f g ≡ true → standing g < standing f
  pub dis_size : (f g : A) → r.disagrees f g ≡ true → size g < size f
  pub sub_size : (f g : A) → r.within f g ≡ true → size f < size g

module _ {A C : Type 0} (r : Relations A C) (all : List A) (w : Sound r) where
  -- the highest standing is not superseded
  one_free : list_any (λ f. true) all ≡ true → list_any (λ f. not (is_superseded r all f)) all ≡ true
  one_free some =
      let st = w.standing in
      let b = best_of (λ f g. st g ≤ st f) (λ f g. total (st g) (st f)) (λ f g h p q. le_trans q p) (λ f. true) all some in
      any-of (λ f. not (is_superseded r all f)) all b.0 b.1
      (not_f _ (no_true _ (λ e.
      let s = superseded-in r all b.0 e in
      let p = and_left (supersedes r all s.0) (r.disagrees s.0 b.0) s.2 in
      let d = and_right (supersedes r all s.0) (r.disagrees s.0 b.0) s.2 in
      let o = w.over-is s.0 b.0 (supersedes-over r all s.0 b.0 b.1 p d) in
      let m = b.3 s.0 s.1 refl in
      omega arith)))

  -- of those the one with the fewest tags is not refused
  one-unrefused : list_any (λ f. true) all ≡ true → list_any (λ f. not (is_refused r all f)) all ≡ true
  unfolding is_refused
  one-unrefused some =
      let sz = w.size in
      let b = best_of (λ f g. sz f ≤ sz g) (λ f g. total (sz f) (sz g)) (λ f g h p q. le_trans p q) (λ f. not (is_superseded r all f)) all (one_free some) in
      any-of (λ f. not (is_refused r all f)) all b.0 b.1
      (rw (not_t (is_superseded r all b.0) b.2) (not_f _ (no_true _ (λ e.
      let s = contested-in r all b.0 e in
      let o = w.dis_size b.0 s.0 (and_left (r.disagrees b.0 s.0) (not (is_superseded r all s.0)) s.2) in
      let m = b.3 s.0 s.1 (and_right (r.disagrees b.0 s.0) (not (is_superseded r all s.0)) s.2) in
      omega arith))))

  -- of those the one with the most tags is covered by none
  one-stands : list_any (λ f. true) all ≡ true → list_any (λ f. not (is_refused r all f) && not (is_covered r all f)) all ≡ true
  unfolding is_covered
  one-stands some =
      let sz = w.size in
      let b = best_of (λ f g. sz g ≤ sz f) (λ f g. total (sz g) (sz f)) (λ f g h p q. le_trans q p) (λ f. not (is_refused r all f)) all (one-unrefused some) in
      any-of (λ f. not (is_refused r all f) && not (is_covered r all f)) all b.0 b.1
      (and_both _ _ b.2 (not_f _ (no_true _ (λ e.
      let s = any-in (λ g. not (is_refused r all g) && r.within b.0 g) all e in
      let o = w.sub_size b.0 s.0 (and_right (not (is_refused r all s.0)) _ s.2) in
      let m = b.3 s.0 s.1 (and_left (not (is_refused r all s.0)) (r.within b.0 s.0) s.2) in
      omega arith))))

  pub some_ranked : (f : A) → Memᴰ f all → (g : A) × Memᴰ g (decide r all).ranked
  unfolding decide
  some_ranked f m =
      let stands : A → Bool = λ g. not (is_refused r all g) && not (is_covered r all g) in
      let s = any-in stands all (one-stands (any-of (λ g. true) all f m refl)) in
      (s.0, perm-mem (sort-perm r.ahead (filter stands all)) (filter-of stands all s.0 s.1 s.2))

-- ---- the order of the items makes no difference

module _ {A C : Type 0} (r : Relations A C) (l m : List A) (p : Permᴰ l m) where
  supersedes-same : (f : A) → supersedes r l f ≡ supersedes r m f
  unfolding supersedes
  supersedes-same f = rw (any-perm (r.disagrees f) p, any-perm (λ g. r.disagrees f g && not (r.outstands f g)) p) refl

  superseded-same : (f : A) → is_superseded r l f ≡ is_superseded r m f
  unfolding is_superseded
  superseded-same f = any-perm (replaces r l f) p ∙ any_same (replaces r l f) (replaces r m f) m (λ g k. ap (λ (b : Bool). b && r.disagrees g f) (supersedes-same g))

  opposes-same : (f g : A) → opposes r l f g ≡ opposes r m f g
  opposes-same f g = ap (λ (b : Bool). r.disagrees f g && not b) (superseded-same g)

  contested-same : (f : A) → is_contested r l f ≡ is_contested r m f
  unfolding is_contested
  contested-same f =
      ap₂ (λ (a b : Bool). not a && b) (supersedes-same f)
      (ap₂ (λ (a b : Bool). not a && b) (superseded-same f) (any-perm (opposes r l f) p ∙ any_same (opposes r l f) (opposes r m f) m (λ g k. opposes-same f g)))

  refused-same : (f : A) → is_refused r l f ≡ is_refused r m f
  unfolding is_refused
  refused-same f = ap₂ ◌||◌ (superseded-same f) (contested-same f)

  covered_same : (f : A) → is_covered r l f ≡ is_covered r m f
  unfolding is_covered
  covered_same f =
      any-perm (λ g. not (is_refused r l g) && r.within f g) p
      ∙ any_same (λ g. not (is_refused r l g) && r.within f g) (λ g. not (is_refused r m g) && r.within f g) m (λ g k. ap (λ (b : Bool). not b && r.within f g) (refused-same g))

  module _ (by-identity : Strict r.lower l) where
    replaced-same : (f : A) (j k : List A) → Permᴰ j k → ((g : A) → Memᴰ g j → Memᴰ g l) → replaced r l f j ≡ replaced r m f k
    replaced-same f [] [] q sub = refl
    replaced-same f [] (y ∷ k) q sub = absurd (Memᴰ.not-nil (perm-mem q (Memᴰ.head refl)))
    replaced-same f (x ∷ j) [] q sub = absurd (Memᴰ.not-nil (perm-mem (Permᴰ.symm q) (Memᴰ.head refl)))
    replaced-same f (x ∷ j) (y ∷ k) q sub = rw (foremost-perm r.lower x j y k (strict-sub r.lower sub by-identity) q) refl

    opposed-same : (f : A) (j k : List A) → Permᴰ j k → ((g : A) → Memᴰ g j → Memᴰ g l) → opposed r l f j ≡ opposed r m f k
    opposed-same f [] [] q sub = refl
    opposed-same f [] (y ∷ k) q sub = absurd (Memᴰ.not-nil (perm-mem q (Memᴰ.head refl)))
    opposed-same f (x ∷ j) [] q sub = absurd (Memᴰ.not-nil (perm-mem (Permᴰ.symm q) (Memᴰ.head refl)))
    opposed-same f (x ∷ j) (y ∷ k) q sub = rw (foremost-perm r.lower x j y k (strict-sub r.lower sub by-identity) q) refl

    -- what passes one of two tests that agree, in two orders
    filters : (g h : A → Bool) → ((f : A) → g f ≡ h f) → Permᴰ (filter g l) (filter h m)
    filters g h e = subst (λ (k : List A). Permᴰ (filter g l) k) (filter_same g h m (λ f k. e f)) (filter-perm g p)

    refusal-same : (f : A) → refusal_of r l f ≡ refusal_of r m f
    unfolding refusal_of
    refusal-same f =
        by (is_superseded r l f)
        (λ s. rw (s, sym (superseded-same f) ∙ s)
        (replaced-same f (filter (replaces r l f) l) (filter (replaces r m f) m)
        (filters (replaces r l f) (replaces r m f) (λ g. ap (λ (b : Bool). b && r.disagrees g f) (supersedes-same g)))
        (λ g k. (filter-in (replaces r l f) l g k).0)))
        (λ s. by (is_contested r l f)
        (λ t. rw (s, sym (superseded-same f) ∙ s, t, sym (contested-same f) ∙ t)
        (opposed-same f (filter (opposes r l f) l) (filter (opposes r m f) m)
        (filters (opposes r l f) (opposes r m f) (opposes-same f))
        (λ g k. (filter-in (opposes r l f) l g k).0)))
        (λ t. rw (s, sym (superseded-same f) ∙ s, t, sym (contested-same f) ∙ t) refl))

    pub same-refused : Permᴰ (decide r l).refused (decide r m).refused
    unfolding decide
    same-refused =
        subst (λ k. Permᴰ (flat_map (refusal_of r l) l) k) (flat-same (refusal_of r l) (refusal_of r m) m (λ f k. refusal-same f)) (flat-perm (refusal_of r l) p)

    pub same-dominated : Permᴰ (decide r l).dominated (decide r m).dominated
    unfolding decide
    same-dominated =
        filters (λ f. not (is_refused r l f) && is_covered r l f) (λ f. not (is_refused r m f) && is_covered r m f)
        (λ f. ap₂ (λ (a b : Bool). not a && b) (refused-same f) (covered_same f))

    pub same-ranked : Strict r.ahead l → (decide r l).ranked ≡ (decide r m).ranked
    unfolding decide
    same-ranked o =
        let g : A → Bool = λ f. not (is_refused r l f) && not (is_covered r l f) in
        sort-same r.ahead
        (filters g (λ f. not (is_refused r m f) && not (is_covered r m f)) (λ f. ap₂ (λ (a b : Bool). not a && not b) (refused-same f) (covered_same f)))
        (strict-sub r.ahead (λ f k. (filter-in g l f k).0) o)

-- ---- the decision of items that ascend

module _ {A C : Type 0} (r : Relations A C) (all : List A) (up : Ascending r.lower all) where
  one-refusal : (f : A) → (refusal_of r all f ≡ []) ⊎ ((x : Refused A C) × (refusal_of r all f ≡ x ∷ []) × (x.item ≡ f))
  one-refusal f = by (is_refused r all f) (λ e. inr (refused-one r all f e)) (λ e. inl (refused_none r all f e))

  pub dominated-ascend : Ascending r.lower (decide r all).dominated
  unfolding decide
  dominated-ascend = ascending-filter r.lower (λ f. not (is_refused r all f) && is_covered r all f) all up

  pub refused-ascend : Ascending (λ x y. r.lower x.item y.item) (decide r all).refused
  unfolding decide
  refused-ascend = ascending-flat r.lower (refusal_of r all) (λ x. x.item) one-refusal all up
