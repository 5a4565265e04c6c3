-- Laws of a sort and of the foremost by a strict order: the order in which the members stand makes no difference, a sort ascends, and the foremost comes before
-- every other member.
use mathlib.Core.Path.{◌≡◌, refl, sym, ap, ap₂, ◌∙◌, subst}
use mathlib.Core.Bool.{Bool, true, false}
use mathlib.Core.Logic.{◌⊎◌, inl, inr}
use mathlib.Core.List.Memᴰ
use mathlib.Core.List.Permᴰ
use mathlib.Core.List.{List, [], ◌∷◌, map, flat_map, Memᴰ, Permᴰ}
use Rattle.std.specs.List.{filter}
use Rattle.lists.specs.Lists.{insert, sort, foremost}
use Rattle.lists.specs.Ordered.{none, next, Ascending}
use Rattle.lists.proofs.Bools.{by, or, clash, no_true}
use Rattle.lists.proofs.Orders.{perm-mem}
use Rattle.lists.proofs.Lists.{filter-in, sort-in, foremost-in, foremost-next, flat_in, map-from}

module _ {A : Type 0} (before : A → A → Bool) where
  -- a strict order, by which any two members compare
  pub record Strict (l : List A) : Type 0 where
    pub irrefl : (x : A) → before x x ≡ false
    pub trans : (x y z : A) → before x y ≡ true → before y z ≡ true → before x z ≡ true
    pub total : (x y : A) → Memᴰ x l → Memᴰ y l → (x ≡ y) ⊎ ((before x y ≡ true) ⊎ (before y x ≡ true))

  -- of some of the members, too
  pub strict-sub : {l m : List A} → ((x : A) → Memᴰ x m → Memᴰ x l) → Strict l → Strict m
  strict-sub f o = record { irrefl = o.irrefl; trans = o.trans; total = λ x y p q. o.total x y (f x p) (f y q) }

  pub asym : {l : List A} → Strict l → (x y : A) → before x y ≡ true → before y x ≡ false
  asym o x y e = no_true (before y x) (λ t. clash (o.trans x y x e t) (o.irrefl x))

  -- ---- the foremost comes before every other

  abbrev First : A → A → Type 0
  First b z = (z ≡ b) ⊎ (before b z ≡ true)

  -- what the first comes before, z comes before too
  first_past : {l : List A} → Strict l → (b y z : A) → First b y → before y z ≡ true → First b z
  first_past o b y z f e = inr (or f (λ q. ap (λ (v : A). before v z) (sym q) ∙ e) (λ t. o.trans b y z t e))

  pub foremost-first : (x : A) (l : List A) → Strict (x ∷ l) → (z : A) → Memᴰ z (x ∷ l) → First (foremost before x l) z
  unfolding foremost
  foremost-first x [] o z m = or (Memᴰ.cases_cons m) (λ e. inl e) (λ k. absurd (Memᴰ.not-nil k))
  foremost-first x (y ∷ l) o z m =
      subst (λ (b : A). First b z) (sym (foremost-next before x y l))
      (by (before y x)
      (λ t. let w = foremost-first y l (strict-sub (λ v k. Memᴰ.tail k) o) in
      rw t (or (Memᴰ.cases_cons m)
      (λ e. first_past o (foremost before y l) y z (w y (Memᴰ.head refl)) (ap (before y) e ∙ t))
      (λ k. w z k)))
      (λ t. let w = foremost-first x l (strict-sub later o) in
      rw t (or (Memᴰ.cases_cons m)
      (λ e. w z (Memᴰ.head e))
      (λ k. or (Memᴰ.cases_cons k)
      (λ e. or (o.total x z (Memᴰ.head refl) (Memᴰ.tail (Memᴰ.head e)))
      (λ q. w z (Memᴰ.head (sym q)))
      (λ r. or r
      (λ u. first_past o (foremost before x l) x z (w x (Memᴰ.head refl)) u)
      (λ u. clash (ap (λ (v : A). before v x) (sym e) ∙ u) t)))
      (λ n. w z (Memᴰ.tail n))))))
    where
      later : (v : A) → Memᴰ v (x ∷ l) → Memᴰ v (x ∷ (y ∷ l))
      later v k = or (Memᴰ.cases_cons k) (λ e. Memᴰ.head e) (λ n. Memᴰ.tail (Memᴰ.tail n))

  -- so it is the same however the members stand
  pub foremost-perm : (x : A) (l : List A) (y : A) (m : List A) → Strict (x ∷ l) → Permᴰ (x ∷ l) (y ∷ m) → foremost before x l ≡ foremost before y m
  foremost-perm x l y m o p =
      let a = foremost before x l in
      let b = foremost before y m in
      let f = foremost-first x l o b (perm-mem p (foremost-in before y m)) in
      let g = foremost-first y m (strict-sub (λ v k. perm-mem p k) o) a (perm-mem (Permᴰ.symm p) (foremost-in before x l)) in
      or f (λ e. sym e) (λ s. or g (λ e. e) (λ t. clash (o.trans a b a s t) (o.irrefl a)))

  -- ---- a sort

  -- what comes before all stands first
  pub insert-first : (x : A) (l : List A) → ((y : A) → Memᴰ y l → before y x ≡ false) → insert before x l ≡ x ∷ l
  unfolding insert
  insert-first x [] f = refl
  insert-first x (y ∷ l) f = rw (f y (Memᴰ.head refl)) refl

  insert-after : (x y : A) (l : List A) → before y x ≡ true → insert before x (y ∷ l) ≡ y ∷ insert before x l
  unfolding insert
  insert-after x y l e = rw e refl

  insert-here : (x y : A) (l : List A) → before y x ≡ false → insert before x (y ∷ l) ≡ x ∷ (y ∷ l)
  unfolding insert
  insert-here x y l e = rw e refl

  -- both go in at the front
  insert-two : (x y : A) (l : List A) → Strict (x ∷ (y ∷ l)) → insert before x l ≡ x ∷ l → insert before y l ≡ y ∷ l → insert before x (y ∷ l) ≡ insert before y (x ∷ l)
  insert-two x y l o p q =
      or (o.total x y (Memᴰ.head refl) (Memᴰ.tail (Memᴰ.head refl)))
      (λ e. ap₂ (λ (u v : A). insert before u (v ∷ l)) e (sym e))
      (λ r. or r
      (λ t. insert-here x y l (asym o x y t) ∙ ap (λ (k : List A). x ∷ k) (sym q) ∙ sym (insert-after y x l t))
      (λ t. insert-after x y l t ∙ ap (λ (k : List A). y ∷ k) p ∙ sym (insert-here y x l (asym o y x t))))

  -- z, which x goes behind and y does not, stands behind y
  over : {l : List A} (o : Strict l) (x y z : A) → Memᴰ y l → Memᴰ z l → before z x ≡ true → before z y ≡ false → before y x ≡ true
  over o x y z m n p q =
      or (o.total y z m n)
      (λ e. ap (λ (v : A). before v x) e ∙ p)
      (λ r. or r (λ t. o.trans y z x t p) (λ t. clash t q))

  insert-insert : (x y : A) (l : List A) → Strict (x ∷ (y ∷ l)) → insert before x (insert before y l) ≡ insert before y (insert before x l)
  insert-insert x y [] o =
      ap (insert before x) (insert-first y [] (λ v k. absurd (Memᴰ.not-nil k)))
      ∙ insert-two x y [] o (insert-first x [] (λ v k. absurd (Memᴰ.not-nil k))) (insert-first y [] (λ v k. absurd (Memᴰ.not-nil k)))
      ∙ ap (insert before y) (sym (insert-first x [] (λ v k. absurd (Memᴰ.not-nil k))))
  insert-insert x y (z ∷ l) o =
      let r = insert-insert x y l (strict-sub less o) in
      by (before z x)
      (λ p. by (before z y)
      (λ q.
      ap (insert before x) (insert-after y z l q) ∙ insert-after x z (insert before y l) p
      ∙ ap (λ (k : List A). z ∷ k) r
      ∙ sym (ap (insert before y) (insert-after x z l p) ∙ insert-after y z (insert before x l) q))
      (λ q.
      ap (insert before x) (insert-here y z l q)
      ∙ insert-after x y (z ∷ l) (over o x y z second third p q)
      ∙ ap (λ (k : List A). y ∷ k) (insert-after x z l p)
      ∙ sym (ap (insert before y) (insert-after x z l p) ∙ insert-here y z (insert before x l) q)))
      (λ p. by (before z y)
      (λ q.
      ap (insert before x) (insert-after y z l q)
      ∙ insert-here x z (insert before y l) p
      ∙ sym (ap (insert before y) (insert-here x z l p)
      ∙ insert-after y x (z ∷ l) (over o y x z (Memᴰ.head refl) third q p)
      ∙ ap (λ (k : List A). x ∷ k) (insert-after y z l q)))
      (λ q.
      ap (insert before x) (insert-here y z l q)
      ∙ insert-two x y (z ∷ l) o (insert-here x z l p) (insert-here y z l q)
      ∙ ap (insert before y) (sym (insert-here x z l p))))
    where
      second : Memᴰ y (x ∷ (y ∷ (z ∷ l)))
      second = Memᴰ.tail (Memᴰ.head refl)

      third : Memᴰ z (x ∷ (y ∷ (z ∷ l)))
      third = Memᴰ.tail (Memᴰ.tail (Memᴰ.head refl))

      less : (v : A) → Memᴰ v (x ∷ (y ∷ l)) → Memᴰ v (x ∷ (y ∷ (z ∷ l)))
      less v k =
          or (Memᴰ.cases_cons k) (λ e. Memᴰ.head e)
          (λ n. or (Memᴰ.cases_cons n) (λ e. Memᴰ.tail (Memᴰ.head e)) (λ j. Memᴰ.tail (Memᴰ.tail (Memᴰ.tail j))))

  -- the sort is the same however the members stand
  pub sort-same : {l m : List A} → Permᴰ l m → Strict l → sort before l ≡ sort before m
  unfolding sort
  sort-same Permᴰ.nil o = refl
  sort-same (Permᴰ.cons e p) o = ap₂ (insert before) e (sort-same p (strict-sub (λ v k. Memᴰ.tail k) o))
  sort-same (Permᴰ.swap {a = x} {b = y} {l = l} d e) o =
      insert-insert x y (sort before l) (strict-sub within o)
      ∙ ap₂ (λ (u v : A). insert before u (insert before v (sort before l))) e d
    where
      within : (v : A) → Memᴰ v (x ∷ (y ∷ sort before l)) → Memᴰ v (x ∷ (y ∷ l))
      within v k =
          or (Memᴰ.cases_cons k) (λ q. Memᴰ.head q)
          (λ n. or (Memᴰ.cases_cons n) (λ q. Memᴰ.tail (Memᴰ.head q)) (λ j. Memᴰ.tail (Memᴰ.tail (sort-in before l v j))))
  sort-same (Permᴰ.trans p q) o = sort-same p o ∙ sort-same q (strict-sub (λ v k. perm-mem p k) o)

  -- one that comes before all the others is sorted first
  pub sort-first : {x : A} {l m : List A} → Permᴰ l (x ∷ m) → Strict l → ((y : A) → Memᴰ y m → before x y ≡ true) → sort before l ≡ x ∷ sort before m
  unfolding sort
  sort-first {x} {l} {m} p o f = sort-same p o ∙ insert-first x (sort before m) (λ y k. asym o x y (f y (sort-in before m y k)))

  -- ---- a sort ascends where any two members compare

  pub data Apart : List A → Type 0 where
    single : Apart []
    also : {x : A} {l : List A} → ((y : A) → Memᴰ y l → (before x y ≡ true) ⊎ (before y x ≡ true)) → Apart l → Apart (x ∷ l)

  insert-in : (x : A) (l : List A) (y : A) → Memᴰ y (insert before x l) → (y ≡ x) ⊎ Memᴰ y l
  unfolding insert
  insert-in x [] y m = Memᴰ.cases_cons m
  insert-in x (z ∷ l) y m =
      by (before z x)
      (λ t. or (Memᴰ.cases_cons (rw t at m)) (λ e. inr (Memᴰ.head e)) (λ k. or (insert-in x l y k) (λ e. inl e) (λ n. inr (Memᴰ.tail n))))
      (λ t. Memᴰ.cases_cons (rw t at m))

  module _ (trans : (x y z : A) → before x y ≡ true → before y z ≡ true → before x z ≡ true) where
    insert-ascends : (x : A) (l : List A) → Ascending before l → ((y : A) → Memᴰ y l → (before x y ≡ true) ⊎ (before y x ≡ true)) → Ascending before (insert before x l)
    unfolding insert
    insert-ascends x [] a f = next (λ y m. absurd (Memᴰ.not-nil m)) none
    insert-ascends x (z ∷ l) (next g a) f =
        by (before z x)
        (λ t. rw t (next
        (λ y m. or (insert-in x l y m) (λ e. ap (before z) e ∙ t) (λ k. g y k))
        (insert-ascends x l a (λ y m. f y (Memᴰ.tail m)))))
        (λ t. let u : before x z ≡ true = or (f z (Memᴰ.head refl)) (λ p. p) (λ p. clash p t) in
        rw t (next (λ y m. or (Memᴰ.cases_cons m) (λ e. ap (before x) e ∙ u) (λ k. trans x z y u (g y k))) (next g a)))

    pub sort-ascends : (l : List A) → Apart l → Ascending before (sort before l)
    unfolding sort
    sort-ascends [] single = none
    sort-ascends (x ∷ l) (also f w) = insert-ascends x (sort before l) (sort-ascends l w) (λ y m. f y (sort-in before l y m))

  -- ---- what ascends is sorted

  ascending-stays : {l : List A} → Strict l → (m : List A) → ((x : A) → Memᴰ x m → Memᴰ x l) → Ascending before m → sort before m ≡ m
  unfolding sort
  ascending-stays o [] sub none = refl
  ascending-stays o (x ∷ m) sub (next f a) =
      ap (insert before x) (ascending-stays o m (λ y k. sub y (Memᴰ.tail k)) a)
      ∙ insert-first x m (λ y k. asym o x y (f y k))

  -- a rearrangement that ascends is the sort
  pub ascending-is : {l m : List A} → Strict l → Permᴰ m l → Ascending before m → m ≡ sort before l
  ascending-is {l} {m} o p a =
      let sub : (x : A) → Memᴰ x m → Memᴰ x l = λ x k. perm-mem (Permᴰ.symm p) k in
      sym (ascending-stays o m sub a) ∙ sort-same p (strict-sub sub o)

  ascending-total : (m : List A) → Ascending before m → (x y : A) → Memᴰ x m → Memᴰ y m → (x ≡ y) ⊎ ((before x y ≡ true) ⊎ (before y x ≡ true))
  ascending-total [] a x y h k = absurd (Memᴰ.not-nil h)
  ascending-total (z ∷ m) (next f a) x y h k =
      or (Memᴰ.cases_cons h)
      (λ p. or (Memᴰ.cases_cons k)
      (λ q. inl (p ∙ sym q))
      (λ j. inr (inl (ap (λ (v : A). before v y) p ∙ f y j))))
      (λ i. or (Memᴰ.cases_cons k)
      (λ q. inr (inr (ap (λ (v : A). before v x) q ∙ f x i)))
      (λ j. ascending-total m a x y i j))

  -- any two members of a list that ascends compare
  pub ascending-strict : ((x : A) → before x x ≡ false) → ((x y z : A) → before x y ≡ true → before y z ≡ true → before x z ≡ true) → {m : List A} → Ascending before m → Strict m
  ascending-strict i t {m} a = record { irrefl = i; trans = t; total = ascending-total m a }

  -- some of them, in their order, ascend too
  pub ascending-filter : (test : A → Bool) (l : List A) → Ascending before l → Ascending before (filter test l)
  ascending-filter test [] a = none
  ascending-filter test (x ∷ l) (next f a) =
      by (test x)
      (λ t. rw t (next (λ y k. f y (filter-in test l y k).0) (ascending-filter test l a)))
      (λ t. rw t (ascending-filter test l a))

  pub apart-filter : (test : A → Bool) (l : List A) → Apart l → Apart (filter test l)
  apart-filter test [] a = single
  apart-filter test (x ∷ l) (also f a) =
      by (test x)
      (λ t. rw t (also (λ y k. f y (filter-in test l y k).0) (apart-filter test l a)))
      (λ t. rw t (apart-filter test l a))

-- of each member at most one, which is known by it: in the order of the members
module _ {A B : Type 0} (before : A → A → Bool) (f : A → List B) (key : B → A) (few : (x : A) → (f x ≡ []) ⊎ ((y : B) × (f x ≡ y ∷ []) × (key y ≡ x))) where
  key-of : (x : A) (y : B) → Memᴰ y (f x) → key y ≡ x
  key-of x y m =
      or (few x)
      (λ e. absurd (Memᴰ.not-nil (subst (λ (l : List B). Memᴰ y l) e m)))
      (λ w. or (Memᴰ.cases_cons (subst (λ (l : List B). Memᴰ y l) w.1 m)) (λ e. ap key e ∙ w.2) (λ k. absurd (Memᴰ.not-nil k)))

  pub ascending-flat : (l : List A) → Ascending before l → Ascending (λ u v. before (key u) (key v)) (flat_map f l)
  unfolding flat_map
  ascending-flat [] a = none
  ascending-flat (x ∷ l) (next h a) =
      or (few x)
      (λ e. rw e (ascending-flat l a))
      (λ w. rw w.1 (next
      (λ z m. let r = flat_in f l z m in ap₂ before w.2 (key-of r.0 z r.2) ∙ h r.0 r.1)
      (ascending-flat l a)))

-- what is mapped ascends by what it is mapped from
pub ascending-map : {A B : Type 0} (h : A → B) (before : B → B → Bool) (l : List A) → Ascending (λ x y. before (h x) (h y)) l → Ascending before (map h l)
ascending-map h before [] a = none
ascending-map h before (x ∷ l) (next f a) =
    next (λ y m. let r = map-from h l y m in ap (before (h x)) r.2 ∙ f r.0 r.1) (ascending-map h before l a)
