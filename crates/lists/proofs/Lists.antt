-- Laws of `Lists`: what a test, a filter, a sort and the foremost say of the members, and of the members mapped.
use Prim.Native.Nat.{ℕ, zero, suc, ◌+◌, ◌-◌, ◌≤◌, ◌<◌}
use mathlib.Core.Path.{◌≡◌, refl, sym, ap, ap₂, ◌∙◌, subst}
use mathlib.Core.Bool.{Bool, true, false, cond, ◌||◌, true≢false, false≢true}
use mathlib.Core.List.Memᴰ
use mathlib.Core.List.Permᴰ
use mathlib.Core.List.{List, [], ◌∷◌, ◌++◌, map, flat_map, Memᴰ, Permᴰ}
use native.Mathlib.Omega.{arith}
use native.Mathlib.Nat.{zero-add}
use lib.ListN.{length, get_or}
use Rattle.std.specs.List.{filter, list_any}
use Rattle.lists.specs.Lists.{insert, sort, foremost}
use Rattle.lists.specs.Ordered.{count_from, up_to}
use Rattle.lists.proofs.Bools.{by, or, clash, no_true, or_left, or_right}
use Rattle.lists.proofs.Orders.{perm-mem}

module _ {A : Type 0} where
  -- ---- tests

  pub any-in : (test : A → Bool) (l : List A) → list_any test l ≡ true → (x : A) × Memᴰ x l × (test x ≡ true)
  any-in test [] e = absurd (false≢true e)
  any-in test (x ∷ l) e =
      by (test x)
      (λ t. (x, Memᴰ.head refl, t))
      (λ t. let r = any-in test l (rw t at e) in (r.0, Memᴰ.tail r.1, r.2))

  pub any-of : (test : A → Bool) (l : List A) (x : A) → Memᴰ x l → test x ≡ true → list_any test l ≡ true
  any-of test [] x m t = absurd (Memᴰ.not-nil m)
  any-of test (y ∷ l) x m t =
      or (Memᴰ.cases_cons m)
      (λ e. or_left (test y) (list_any test l) (ap test (sym e) ∙ t))
      (λ k. or_right (test y) (list_any test l) (any-of test l x k t))

  pub any-no : (test : A → Bool) (l : List A) (x : A) → list_any test l ≡ false → Memᴰ x l → test x ≡ false
  any-no test l x e m = no_true (test x) (λ t. true≢false (sym (any-of test l x m t) ∙ e))

  pub any_none : (test : A → Bool) (l : List A) → ((x : A) → Memᴰ x l → test x ≡ false) → list_any test l ≡ false
  any_none test l e = no_true (list_any test l) (λ t. let r = any-in test l t in clash r.2 (e r.0 r.1))

  -- ---- filters

  pub filter-in : (test : A → Bool) (l : List A) (x : A) → Memᴰ x (filter test l) → Memᴰ x l × (test x ≡ true)
  filter-in test [] x m = absurd (Memᴰ.not-nil m)
  filter-in test (y ∷ l) x m =
      by (test y)
      (λ t. or (Memᴰ.cases_cons (rw t at m))
      (λ e. (Memᴰ.head e, ap test e ∙ t))
      (λ k. let r = filter-in test l x k in (Memᴰ.tail r.0, r.1)))
      (λ t. let r = filter-in test l x (rw t at m) in (Memᴰ.tail r.0, r.1))

  pub filter-of : (test : A → Bool) (l : List A) (x : A) → Memᴰ x l → test x ≡ true → Memᴰ x (filter test l)
  filter-of test [] x m t = absurd (Memᴰ.not-nil m)
  filter-of test (y ∷ l) x m t =
      or (Memᴰ.cases_cons m)
      (λ e. rw (ap test (sym e) ∙ t) (Memᴰ.head e))
      (λ k. by (test y) (λ u. rw u (Memᴰ.tail (filter-of test l x k t))) (λ u. rw u (filter-of test l x k t)))

  pub filter-few : (test : A → Bool) (l : List A) → length (filter test l) ≤ length l
  filter-few test [] = omega arith
  filter-few test (y ∷ l) = let r = filter-few test l in by (test y) (λ u. rw u (omega arith)) (λ u. rw u (omega arith))

  pub filter_none : (test : A → Bool) (l : List A) → list_any test l ≡ false → filter test l ≡ []
  filter_none test [] e = refl
  filter_none test (x ∷ l) e =
      by (test x)
      (λ t. clash {b = true} refl (rw t at e))
      (λ t. rw t (filter_none test l (rw t at e)))

  pub filter-some : (test : A → Bool) (l : List A) → list_any test l ≡ true → (x : A) × (rest : List A) × (filter test l ≡ x ∷ rest)
  filter-some test [] e = absurd (false≢true e)
  filter-some test (x ∷ l) e =
      by (test x)
      (λ t. (x, filter test l, rw t refl))
      (λ t. let r = filter-some test l (rw t at e) in (r.0, r.1, rw t r.2))

  -- ---- the order of the members makes no difference to a test

  pub any-perm : (test : A → Bool) {l m : List A} → Permᴰ l m → list_any test l ≡ list_any test m
  any-perm test Permᴰ.nil = refl
  any-perm test (Permᴰ.cons e p) = ap₂ ◌||◌ (ap test e) (any-perm test p)
  any-perm test (Permᴰ.swap {a = x} {b = y} {l = l} d e) =
      swapped (test x) (test y) (list_any test l) ∙ ap₂ (λ (p q : Bool). p || (q || list_any test l)) (ap test e) (ap test d)
    where
      swapped : (p q r : Bool) → (p || (q || r)) ≡ (q || (p || r))
      swapped true true r = refl
      swapped true false r = refl
      swapped false q r = refl
  any-perm test (Permᴰ.trans p q) = any-perm test p ∙ any-perm test q

  pub filter-perm : (test : A → Bool) {l m : List A} → Permᴰ l m → Permᴰ (filter test l) (filter test m)
  filter-perm test Permᴰ.nil = Permᴰ.nil
  filter-perm test (Permᴰ.cons {a = x} {b = y} e p) =
      let t = ap test (sym e) in
      by (test x) (λ u. rw (u, t ∙ u) (Permᴰ.cons e (filter-perm test p))) (λ u. rw (u, t ∙ u) (filter-perm test p))
  filter-perm test (Permᴰ.swap {a = x} {b = y} {a' = v} {b' = z} {l = l} d e) =
      let t = ap test (sym d) in
      let w = ap test (sym e) in
      by (test x)
      (λ p. by (test y)
      (λ q. rw (p, q, t ∙ p, w ∙ q) (Permᴰ.swap d e))
      (λ q. rw (p, q, t ∙ p, w ∙ q) (Permᴰ.cons d (Permᴰ.refl (filter test l)))))
      (λ p. by (test y)
      (λ q. rw (p, q, t ∙ p, w ∙ q) (Permᴰ.cons e (Permᴰ.refl (filter test l))))
      (λ q. rw (p, q, t ∙ p, w ∙ q) (Permᴰ.refl (filter test l))))
  filter-perm test (Permᴰ.trans p q) = Permᴰ.trans (filter-perm test p) (filter-perm test q)

  -- ---- a sort rearranges

  insert-perm : (before : A → A → Bool) (x : A) (l : List A) → Permᴰ (insert before x l) (x ∷ l)
  unfolding insert
  insert-perm before x [] = Permᴰ.refl (x ∷ [])
  insert-perm before x (y ∷ l) =
      by (before y x)
      (λ t. rw t (Permᴰ.trans (Permᴰ.cons refl (insert-perm before x l)) (Permᴰ.swap refl refl)))
      (λ t. rw t (Permᴰ.refl (x ∷ (y ∷ l))))

  pub sort-perm : (before : A → A → Bool) (l : List A) → Permᴰ (sort before l) l
  unfolding sort
  sort-perm before [] = Permᴰ.nil
  sort-perm before (x ∷ l) = Permᴰ.trans (insert-perm before x (sort before l)) (Permᴰ.cons refl (sort-perm before l))

  pub sort-in : (before : A → A → Bool) (l : List A) (x : A) → Memᴰ x (sort before l) → Memᴰ x l
  sort-in before l x m = perm-mem (Permᴰ.symm (sort-perm before l)) m

  -- ---- the foremost is a member

  pub foremost-next : (before : A → A → Bool) (x y : A) (l : List A) → foremost before x (y ∷ l) ≡ foremost before (cond (before y x) y x) l
  unfolding foremost
  foremost-next before x y l = refl

  pub foremost-in : (before : A → A → Bool) (x : A) (l : List A) → Memᴰ (foremost before x l) (x ∷ l)
  unfolding foremost
  foremost-in before x [] = Memᴰ.head refl
  foremost-in before x (y ∷ l) =
      by (before y x)
      (λ t. rw t (Memᴰ.tail (foremost-in before y l)))
      (λ t. rw t (or (Memᴰ.cases_cons (foremost-in before x l)) (λ e. Memᴰ.head e) (λ m. Memᴰ.tail (Memᴰ.tail m))))

-- ---- members mapped

module _ {A B : Type 0} (h : A → B) where
  pub any-map : (p : A → Bool) (q : B → Bool) (l : List A) → ((x : A) → Memᴰ x l → q (h x) ≡ p x) → list_any q (map h l) ≡ list_any p l
  any-map p q [] e = refl
  any-map p q (x ∷ l) e = ap₂ ◌||◌ (e x (Memᴰ.head refl)) (any-map p q l (λ y m. e y (Memᴰ.tail m)))

  pub filter_map : (p : A → Bool) (q : B → Bool) (l : List A) → ((x : A) → Memᴰ x l → q (h x) ≡ p x) → filter q (map h l) ≡ map h (filter p l)
  filter_map p q [] e = refl
  filter_map p q (x ∷ l) e =
      let r = filter_map p q l (λ y m. e y (Memᴰ.tail m)) in
      let t = e x (Memᴰ.head refl) in
      by (p x) (λ u. rw (t ∙ u, u) (ap (λ (k : List B). h x ∷ k) r)) (λ u. rw (t ∙ u, u) r)

  module _ (a : A → A → Bool) (b : B → B → Bool) where
    insert-map : (x : A) (l : List A) → ((y : A) → Memᴰ y l → b (h y) (h x) ≡ a y x) → insert b (h x) (map h l) ≡ map h (insert a x l)
    unfolding insert
    insert-map x [] e = refl
    insert-map x (y ∷ l) e =
        let t = e y (Memᴰ.head refl) in
        let r = insert-map x l (λ z m. e z (Memᴰ.tail m)) in
        by (a y x) (λ u. rw (t ∙ u, u) (ap (λ (k : List B). h y ∷ k) r)) (λ u. rw (t ∙ u, u) refl)

    pub sort-map : (l : List A) → ((x y : A) → Memᴰ x l → Memᴰ y l → b (h x) (h y) ≡ a x y) → sort b (map h l) ≡ map h (sort a l)
    unfolding sort
    sort-map [] e = refl
    sort-map (x ∷ l) e =
        ap (insert b (h x)) (sort-map l (λ y z m n. e y z (Memᴰ.tail m) (Memᴰ.tail n)))
        ∙ insert-map x (sort a l) (λ y m. e y x (Memᴰ.tail (sort-in a l y m)) (Memᴰ.head refl))

    pub foremost-map : (x : A) (l : List A) → ((y z : A) → Memᴰ y (x ∷ l) → Memᴰ z (x ∷ l) → b (h y) (h z) ≡ a y z) → foremost b (h x) (map h l) ≡ h (foremost a x l)
    unfolding foremost
    foremost-map x [] e = refl
    foremost-map x (y ∷ l) e =
        let t = e y x (Memᴰ.tail (Memᴰ.head refl)) (Memᴰ.head refl) in
        foremost-next b (h x) (h y) (map h l)
        ∙ by (a y x)
        (λ u. rw (t ∙ u) (foremost-map y l (λ z w m n. e z w (Memᴰ.tail m) (Memᴰ.tail n)) ∙ ap (λ (p : Bool). h (foremost a (cond p y x) l)) (sym u)))
        (λ u. rw (t ∙ u) (foremost-map x l (λ z w m n. e z w (later m) (later n)) ∙ ap (λ (p : Bool). h (foremost a (cond p y x) l)) (sym u)))
        ∙ ap h (sym (foremost-next a x y l))
      where
        later : {z : A} → Memᴰ z (x ∷ l) → Memᴰ z (x ∷ (y ∷ l))
        later m = or (Memᴰ.cases_cons m) (λ e. Memᴰ.head e) (λ k. Memᴰ.tail (Memᴰ.tail k))

-- ---- lists made of the members, one after another

module _ {A B : Type 0} where
  pub flat_in : (f : A → List B) (l : List A) (y : B) → Memᴰ y (flat_map f l) → (x : A) × Memᴰ x l × Memᴰ y (f x)
  unfolding flat_map
  flat_in f [] y m = absurd (Memᴰ.not-nil m)
  flat_in f (x ∷ l) y m =
      or (Memᴰ.append_cases (f x) m)
      (λ k. (x, Memᴰ.head refl, k))
      (λ k. let r = flat_in f l y k in (r.0, Memᴰ.tail r.1, r.2))

  pub flat-same : (f g : A → List B) (l : List A) → ((x : A) → Memᴰ x l → f x ≡ g x) → flat_map f l ≡ flat_map g l
  unfolding flat_map
  flat-same f g [] e = refl
  flat-same f g (x ∷ l) e = ap₂ ◌++◌ (e x (Memᴰ.head refl)) (flat-same f g l (λ y m. e y (Memᴰ.tail m)))

  pub flat-perm : (f : A → List B) {l m : List A} → Permᴰ l m → Permᴰ (flat_map f l) (flat_map f m)
  unfolding flat_map
  flat-perm f Permᴰ.nil = Permᴰ.nil
  flat-perm f (Permᴰ.cons {a = x} {b = y} {l₁ = k} {l₂ = l} e p) =
      subst (λ (v : List B). Permᴰ (f x ++ flat_map f k) (v ++ flat_map f l)) (ap f e) (Permᴰ.append_left (f x) (flat-perm f p))
  flat-perm f (Permᴰ.swap {a = x} {b = y} {a' = v} {b' = z} {l = l} d e) =
      subst (λ (k : List B). Permᴰ (f x ++ (f y ++ flat_map f l)) (f v ++ (k ++ flat_map f l))) (ap f d)
      (subst (λ (k : List B). Permᴰ (f x ++ (f y ++ flat_map f l)) (k ++ (f x ++ flat_map f l))) (ap f e)
      (turned (f x) (f y) (flat_map f l)))
    where
      turned : (p q r : List B) → Permᴰ (p ++ (q ++ r)) (q ++ (p ++ r))
      turned [] q r = Permᴰ.refl (q ++ r)
      turned (w ∷ p) q r = Permᴰ.trans (Permᴰ.cons refl (turned p q r)) (Permᴰ.symm (Permᴰ.middle w q (p ++ r)))
  flat-perm f (Permᴰ.trans p q) = Permᴰ.trans (flat-perm f p) (flat-perm f q)

-- two tests that agree on the members
-- what a list maps to, it maps to from a member
pub map-from : {A B : Type 0} (f : A → B) (l : List A) (z : B) → Memᴰ z (map f l) → (x : A) × Memᴰ x l × (z ≡ f x)
map-from f [] z m = absurd (Memᴰ.not-nil m)
map-from f (y ∷ l) z m =
    or (Memᴰ.cases_cons m)
    (λ e. (y, Memᴰ.head refl, e))
    (λ k. let r = map-from f l z k in (r.0, Memᴰ.tail r.1, r.2))

pub any_same : {A : Type 0} (p q : A → Bool) (l : List A) → ((x : A) → Memᴰ x l → p x ≡ q x) → list_any p l ≡ list_any q l
any_same p q [] e = refl
any_same p q (x ∷ l) e = ap₂ ◌||◌ (e x (Memᴰ.head refl)) (any_same p q l (λ y m. e y (Memᴰ.tail m)))

pub filter_same : {A : Type 0} (p q : A → Bool) (l : List A) → ((x : A) → Memᴰ x l → p x ≡ q x) → filter p l ≡ filter q l
filter_same p q [] e = refl
filter_same p q (y ∷ l) e = rw (e y (Memᴰ.head refl), filter_same p q l (λ x m. e x (Memᴰ.tail m))) refl

-- ---- numbers one after another

pub count-length : (k n : ℕ) → length (count_from k n) ≡ n
unfolding count_from
count-length k zero = refl
count-length k (suc n) = ap suc (count-length (suc k) n)

pub count-in : (k n i : ℕ) → Memᴰ i (count_from k n) → (k ≤ i) × (i < k + n)
unfolding count_from
count-in k zero i m = absurd (Memᴰ.not-nil m)
count-in k (suc n) i m =
    or (Memᴰ.cases_cons m)
    (λ e. (omega arith, omega arith))
    (λ r. let z = count-in (suc k) n i r in (omega arith, omega arith))

pub up_in : (n i : ℕ) → Memᴰ i (up_to n) → i < n
up_in n i m = let r = count-in 0 n i m in omega arith

count_of : (k n i : ℕ) → Memᴰ (k + i) (count_from k (suc (n + i)))
unfolding count_from
count_of k n zero = let e : k + 0 ≡ k = omega arith in Memᴰ.head e
count_of k n (suc i) =
    let e : k + suc i ≡ suc k + i = omega arith in
    let z : n + suc i ≡ suc (n + i) = omega arith in
    rw (e, z) (Memᴰ.tail (count_of (suc k) n i))

pub up_of : (n i : ℕ) → i < n → Memᴰ i (up_to n)
up_of n i h = go (n - suc i) (omega arith)
  where
    go : (m : ℕ) → n ≡ suc (m + i) → Memᴰ i (up_to n)
    go m e = rw e (subst (λ (j : ℕ). Memᴰ j (count_from 0 (suc (m + i)))) (zero-add i) (count_of 0 m i))

-- a list is its members by their places
module _ {A : Type 0} (d : A) where
  from_place : (h : ℕ → A) (l : List A) (k : ℕ) → ((i : ℕ) → i < length l → h (k + i) ≡ get_or l i d) → map h (count_from k (length l)) ≡ l
  unfolding count_from
  from_place h [] k e = refl
  from_place h (x ∷ l) k e =
      let z : k ≡ k + 0 = omega arith in
      ap₂ (λ (y : A) (ys : List A). y ∷ ys) (ap h z ∙ e 0 (omega arith))
      (from_place h l (suc k) (λ i b. let y : suc k + i ≡ k + suc i = omega arith in ap h y ∙ e (suc i) (omega arith)))

  pub by-places : (l : List A) → map (λ i. get_or l i d) (up_to (length l)) ≡ l
  by-places l = from_place (λ i. get_or l i d) l 0 (λ i b. let z : 0 + i ≡ i = omega arith in ap (λ (j : ℕ). get_or l j d) z)
