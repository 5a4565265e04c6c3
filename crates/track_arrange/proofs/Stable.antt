-- Laws of a sort by an order in which two members may be equal: what is sorted may be sorted again, and what goes beyond a limit.
use mathlib.Core.Path.{◌≡◌, refl, ap, ◌∙◌}
use mathlib.Core.Bool.{Bool, true, false, not, ◌&&◌}
use mathlib.Core.List.Memᴰ
use mathlib.Core.List.{List, [], ◌∷◌, Memᴰ}
use Rattle.std.specs.List.{filter}
use Rattle.lists.specs.Lists.{insert, sort}
use Rattle.lists.proofs.Bools.{by, or, clash, no_true, and_left, not_t}
use Rattle.lists.proofs.Lists.{sort-in}
use Rattle.lists.proofs.Sorting.{insert-first}

module _ {A : Type 0} (before : A → A → Bool) where
  pub insert-none : (x : A) → insert before x [] ≡ x ∷ []
  unfolding insert
  insert-none x = refl

  pub insert-yes : (x y : A) (l : List A) → before y x ≡ true → insert before x (y ∷ l) ≡ y ∷ insert before x l
  unfolding insert
  insert-yes x y l t = rw t refl

  pub insert-no : (x y : A) (l : List A) → before y x ≡ false → insert before x (y ∷ l) ≡ x ∷ (y ∷ l)
  unfolding insert
  insert-no x y l t = rw t refl

  insert-in : (x z : A) (l : List A) → Memᴰ z (insert before x l) → Memᴰ z (x ∷ l)
  insert-in x z [] m = rw (insert-none x) at m
  insert-in x z (y ∷ l) m =
      by (before y x)
      (λ t. or (Memᴰ.cases_cons (rw (insert-yes x y l t) at m))
      (λ e. Memᴰ.tail (Memᴰ.head e))
      (λ k. or (Memᴰ.cases_cons (insert-in x z l k)) (λ e. Memᴰ.head e) (λ n. Memᴰ.tail (Memᴰ.tail n))))
      (λ t. rw (insert-no x y l t) at m)

-- two orders that agree on the members
module _ {A : Type 0} (a b : A → A → Bool) where
  insert-agree : (x : A) (l : List A) → ((y : A) → Memᴰ y l → a y x ≡ b y x) → insert a x l ≡ insert b x l
  unfolding insert
  insert-agree x [] e = refl
  insert-agree x (y ∷ l) e =
      let t = e y (Memᴰ.head refl) in
      let r = insert-agree x l (λ z m. e z (Memᴰ.tail m)) in
      by (b y x) (λ u. rw (t ∙ u, u) (ap (λ (k : List A). y ∷ k) r)) (λ u. rw (t ∙ u, u) refl)

  pub sort-agree : (l : List A) → ((x y : A) → Memᴰ x l → Memᴰ y l → a x y ≡ b x y) → sort a l ≡ sort b l
  unfolding sort
  sort-agree [] e = refl
  sort-agree (x ∷ l) e =
      insert-agree x (sort a l) (λ y m. e y x (Memᴰ.tail (sort-in a l y m)) (Memᴰ.head refl))
      ∙ ap (insert b x) (sort-agree l (λ y z m n. e y z (Memᴰ.tail m) (Memᴰ.tail n)))

-- an order, in which what comes before x comes before all that do not come before x
pub record Weak {A : Type 0} (before : A → A → Bool) : Type 0 where
  pub irrefl : (x : A) → before x x ≡ false
  pub trans : (x y z : A) → before x y ≡ true → before y z ≡ true → before x z ≡ true
  pub past : (x y z : A) → before x y ≡ true → before z y ≡ false → before x z ≡ true

module _ {A : Type 0} (before : A → A → Bool) (o : Weak before) where
  asym : (x y : A) → before x y ≡ true → before y x ≡ false
  asym x y e = no_true (before y x) (λ t. clash (o.trans x y x e t) (o.irrefl x))

  -- ---- in order

  -- no later member comes before an earlier one
  pub data Ordered : List A → Type 0 where
    none : Ordered []
    next : {x : A} {l : List A} → ((y : A) → Memᴰ y l → before y x ≡ false) → Ordered l → Ordered (x ∷ l)

  insert-ordered : (x : A) (l : List A) → Ordered l → Ordered (insert before x l)
  insert-ordered x [] none = rw (insert-none before x) (next (λ y m. absurd (Memᴰ.not-nil m)) none)
  insert-ordered x (y ∷ l) (next f w) =
      by (before y x)
      (λ t. rw (insert-yes before x y l t) (next (λ z m. or (Memᴰ.cases_cons (insert-in before x z l m)) (λ e. rw e (asym y x t)) (λ k. f z k)) (insert-ordered x l w)))
      (λ t. rw (insert-no before x y l t) (next (λ z m. or (Memᴰ.cases_cons m) (λ e. rw e t) (λ k. no_true (before z x) (λ u. clash (o.past z x y u t) (f z k)))) (next f w)))

  pub sort-ordered : (l : List A) → Ordered (sort before l)
  unfolding sort
  sort-ordered [] = none
  sort-ordered (x ∷ l) = insert-ordered x (sort before l) (sort-ordered l)

  -- what is in order stays as it is
  pub sort-same : (l : List A) → Ordered l → sort before l ≡ l
  unfolding sort
  sort-same [] none = refl
  sort-same (x ∷ l) (next f w) = ap (insert before x) (sort-same l w) ∙ insert-first before x l f

  -- ---- those that are equal keep their order

  abbrev pub equal : A → A → Bool
  equal t u = not (before t u) && not (before u t)

  -- what comes before one that is equal to t is not equal to t
  not_equal : (t x y : A) → equal t x ≡ true → before y x ≡ true → equal t y ≡ false
  not_equal t x y e b = let c = o.past y x t b (not_t (before t x) (and_left (not (before t x)) (not (before x t)) e)) in rw (asym y t c, c) refl

  insert-equal : (t x : A) (l : List A) → filter (equal t) (insert before x l) ≡ filter (equal t) (x ∷ l)
  insert-equal t x [] = ap (filter (equal t)) (insert-none before x)
  insert-equal t x (y ∷ l) =
      by (before y x)
      (λ b. ap (filter (equal t)) (insert-yes before x y l b)
      ∙ by (equal t x)
      (λ e. rw (not_equal t x y e b) (insert-equal t x l))
      (λ e. by (equal t y)
      (λ g. rw (g, e) (ap (λ (k : List A). y ∷ k) (insert-equal t x l ∙ passed e)))
      (λ g. rw (g, e) (insert-equal t x l ∙ passed e))))
      (λ b. ap (filter (equal t)) (insert-no before x y l b))
    where
      passed : equal t x ≡ false → filter (equal t) (x ∷ l) ≡ filter (equal t) l
      passed e = rw e refl

  pub sort-stable : (t : A) (l : List A) → filter (equal t) (sort before l) ≡ filter (equal t) l
  unfolding sort
  sort-stable t [] = refl
  sort-stable t (x ∷ l) =
      insert-equal t x (sort before l)
      ∙ by (equal t x) (λ e. rw e (ap (λ (k : List A). x ∷ k) (sort-stable t l))) (λ e. rw e (sort-stable t l))
