-- What is decided does not depend on what the items are, but on how they relate, and of what is measured only which refusal carries it: where h carries the
-- members of a list to items that relate in the same way, and u what is measured of them, what is decided of these is what is decided of the members, carried.
use mathlib.Core.Path.{◌≡◌, refl, sym, ap, ap₂, ◌∙◌}
use mathlib.Core.Bool.{Bool, not, ◌&&◌, ◌||◌}
use mathlib.Core.List.{List, [], ◌∷◌, ◌++◌, map, flat_map, Memᴰ}
use Rattle.std.specs.List.{filter}
use Rattle.lists.proofs.Bools.{by}
use Rattle.lists.specs.Lists.{sort, foremost}
use Rattle.lists.proofs.Lists.{any-map, filter_map, filter-in, sort-map, foremost-map, foremost-in}
use Rattle.decision_rule.specs.Standing.{Relations, supersedes, replaces, is_superseded, opposes, is_contested, is_refused, is_covered, replaced, opposed, refusal_of, decide}
use Rattle.decision_rule.specs.Outcome.{Refused, Outcome}

-- members of l relate as what h makes of them
pub record Alike {A B C D : Type 0} (a : Relations A C) (b : Relations B D) (h : A → B) (u : C → D) (l : List A) : Type 0 where
  pub disagrees : (x y : A) → Memᴰ x l → Memᴰ y l → b.disagrees (h x) (h y) ≡ a.disagrees x y
  pub chi_square : (x y : A) → Memᴰ x l → Memᴰ y l → b.chi_square (h x) (h y) ≡ u (a.chi_square x y)
  pub outstands : (x y : A) → Memᴰ x l → Memᴰ y l → b.outstands (h x) (h y) ≡ a.outstands x y
  pub passed : (x : A) → Memᴰ x l → b.passed (h x) ≡ a.passed x
  pub within : (x y : A) → Memᴰ x l → Memᴰ y l → b.within (h x) (h y) ≡ a.within x y
  pub lower : (x y : A) → Memᴰ x l → Memᴰ y l → b.lower (h x) (h y) ≡ a.lower x y
  pub ahead : (x y : A) → Memᴰ x l → Memᴰ y l → b.ahead (h x) (h y) ≡ a.ahead x y

-- a refused item, and an outcome, with h of each item and u of what is measured
abbrev pub carried_refusal : {A B C D : Type 0} → (A → B) → (C → D) → Refused A C → Refused B D
carried_refusal h u x = record { item = h x.item; against = h x.against; chi2 = u x.chi2; superseded = x.superseded }

abbrev pub carried_outcome : {A B C D : Type 0} → (A → B) → (C → D) → Outcome A C → Outcome B D
carried_outcome h u o = record { ranked = map h o.ranked; dominated = map h o.dominated; refused = map (carried_refusal h u) o.refused }

map-append : {A B : Type 0} (f : A → B) (l m : List A) → map f (l ++ m) ≡ map f l ++ map f m
map-append f [] m = refl
map-append f (x ∷ l) m = ap (λ k. f x ∷ k) (map-append f l m)

flat-map : {A B C D : Type 0} (h : A → B) (k : C → D) (f : A → List C) (g : B → List D) (l : List A) → ((x : A) → Memᴰ x l → g (h x) ≡ map k (f x))
    → flat_map g (map h l) ≡ map k (flat_map f l)
unfolding flat_map
flat-map h k f g [] e = refl
flat-map h k f g (x ∷ l) e =
    ap₂ ◌++◌ (e x (Memᴰ.head refl)) (flat-map h k f g l (λ y m. e y (Memᴰ.tail m)))
    ∙ sym (map-append k (f x) (flat_map f l))

module _ {A B C D : Type 0} (a : Relations A C) (b : Relations B D) (h : A → B) (u : C → D) (l : List A) (w : Alike a b h u l) where
  supersedes-to : (x : A) → Memᴰ x l → supersedes b (map h l) (h x) ≡ supersedes a l x
  unfolding supersedes
  supersedes-to x m =
      ap₂ ◌&&◌ (w.passed x m)
      (ap₂ (λ (p q : Bool). p && not q)
      (any-map h (a.disagrees x) (b.disagrees (h x)) l (λ y n. w.disagrees x y m n))
      (any-map h (λ y. a.disagrees x y && not (a.outstands x y)) (λ y. b.disagrees (h x) y && not (b.outstands (h x) y)) l
      (λ y n. ap₂ (λ (p q : Bool). p && not q) (w.disagrees x y m n) (w.outstands x y m n))))

  replaces-to : (x y : A) → Memᴰ x l → Memᴰ y l → replaces b (map h l) (h x) (h y) ≡ replaces a l x y
  replaces-to x y m n = ap₂ ◌&&◌ (supersedes-to y n) (w.disagrees y x n m)

  superseded-to : (x : A) → Memᴰ x l → is_superseded b (map h l) (h x) ≡ is_superseded a l x
  unfolding is_superseded
  superseded-to x m = any-map h (replaces a l x) (replaces b (map h l) (h x)) l (λ y n. replaces-to x y m n)

  opposes-to : (x y : A) → Memᴰ x l → Memᴰ y l → opposes b (map h l) (h x) (h y) ≡ opposes a l x y
  opposes-to x y m n = ap₂ (λ (p q : Bool). p && not q) (w.disagrees x y m n) (superseded-to y n)

  contested-to : (x : A) → Memᴰ x l → is_contested b (map h l) (h x) ≡ is_contested a l x
  unfolding is_contested
  contested-to x m =
      ap₂ (λ (p q : Bool). not p && q) (supersedes-to x m)
      (ap₂ (λ (p q : Bool). not p && q) (superseded-to x m) (any-map h (opposes a l x) (opposes b (map h l) (h x)) l (λ y n. opposes-to x y m n)))

  refused-to : (x : A) → Memᴰ x l → is_refused b (map h l) (h x) ≡ is_refused a l x
  unfolding is_refused
  refused-to x m = ap₂ ◌||◌ (superseded-to x m) (contested-to x m)

  covered-to : (x : A) → Memᴰ x l → is_covered b (map h l) (h x) ≡ is_covered a l x
  unfolding is_covered
  covered-to x m =
      any-map h (λ y. not (is_refused a l y) && a.within x y) (λ y. not (is_refused b (map h l) y) && b.within (h x) y) l
      (λ y n. ap₂ (λ (p q : Bool). not p && q) (refused-to y n) (w.within x y m n))

  -- ---- what a refusal names

  -- the foremost of some members
  first_to : (x : A) (k : List A) → ((y : A) → Memᴰ y (x ∷ k) → Memᴰ y l) → foremost b.lower (h x) (map h k) ≡ h (foremost a.lower x k)
  first_to x k sub = foremost-map h a.lower b.lower x k (λ y z m n. w.lower y z (sub y m) (sub z n))

  replaced-to : (x : A) → Memᴰ x l → (k : List A) → ((y : A) → Memᴰ y k → Memᴰ y l) → replaced b (map h l) (h x) (map h k) ≡ map (carried_refusal h u) (replaced a l x k)
  replaced-to x m [] sub = refl
  replaced-to x m (y ∷ k) sub =
      let z = foremost a.lower y k in
      rw (first_to y k sub, w.chi_square z x (sub z (foremost-in a.lower y k)) m) refl

  opposed-to : (x : A) → Memᴰ x l → (k : List A) → ((y : A) → Memᴰ y k → Memᴰ y l) → opposed b (map h l) (h x) (map h k) ≡ map (carried_refusal h u) (opposed a l x k)
  opposed-to x m [] sub = refl
  opposed-to x m (y ∷ k) sub =
      let z = foremost a.lower y k in
      rw (first_to y k sub, w.chi_square x z m (sub z (foremost-in a.lower y k))) refl

  refusal-to : (x : A) → Memᴰ x l → refusal_of b (map h l) (h x) ≡ map (carried_refusal h u) (refusal_of a l x)
  unfolding refusal_of
  refusal-to x m =
      by (is_superseded a l x)
      (λ p. rw (superseded-to x m ∙ p, p, filter_map h (replaces a l x) (replaces b (map h l) (h x)) l (λ y n. replaces-to x y m n))
      (replaced-to x m (filter (replaces a l x) l) (λ y n. (filter-in (replaces a l x) l y n).0)))
      (λ p. by (is_contested a l x)
      (λ q. rw (superseded-to x m ∙ p, p, contested-to x m ∙ q, q, filter_map h (opposes a l x) (opposes b (map h l) (h x)) l (λ y n. opposes-to x y m n))
      (opposed-to x m (filter (opposes a l x) l) (λ y n. (filter-in (opposes a l x) l y n).0)))
      (λ q. rw (superseded-to x m ∙ p, p, contested-to x m ∙ q, q) refl))

  -- ---- the whole

  pub carried : decide b (map h l) ≡ carried_outcome h u (decide a l)
  unfolding decide
  carried =
      let stands : A → Bool = λ x. not (is_refused a l x) && not (is_covered a l x) in
      let e = filter_map h stands (λ y. not (is_refused b (map h l) y) && not (is_covered b (map h l) y)) l
      (λ x m. ap₂ (λ (p q : Bool). not p && not q) (refused-to x m) (covered-to x m)) in
      let r : sort b.ahead (filter (λ y. not (is_refused b (map h l) y) && not (is_covered b (map h l) y)) (map h l)) ≡ map h (sort a.ahead (filter stands l)) =
      ap (sort b.ahead) e
      ∙ sort-map h a.ahead b.ahead (filter stands l) (λ x y m n. w.ahead x y (filter-in stands l x m).0 (filter-in stands l y n).0) in
      let d = filter_map h (λ x. not (is_refused a l x) && is_covered a l x) (λ y. not (is_refused b (map h l) y) && is_covered b (map h l) y) l
      (λ x m. ap₂ (λ (p q : Bool). not p && q) (refused-to x m) (covered-to x m)) in
      let f = flat-map h (carried_refusal h u) (refusal_of a l) (refusal_of b (map h l)) l refusal-to in
      λ i. record { ranked = r i; dominated = d i; refused = f i }
