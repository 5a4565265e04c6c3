-- Laws of products of lists: what is at each place, in which order they are, and what they hold.
use Rattle.std.proofs.Common.{◌≡◌, refl, sym, ap, ap₂, ◌∙◌, subst, arith, ℕ, zero, suc, ◌+◌, ◌*◌, ◌/◌, ◌%◌, ◌≤◌, ◌<◌, Bool, true, false}
use Rattle.std.proofs.lemmas.Nat.{div-mul-add, mod-mul-add}
use mathlib.Core.List.Memᴰ
use mathlib.Core.List.{List, [], ◌∷◌, ◌++◌, map, flat_map, map-append, Memᴰ}
use Rattle.lists.specs.Ordered.{none, next, count_from, up_to, Ascending}
use Rattle.lists.proofs.Bools.{or, or_left}
use Rattle.lists.proofs.Lists.{map-from}
use Rattle.lists.proofs.Sorting.{ascending-map}
use Rattle.pictures_text.specs.Cases.{pairs}
use Rattle.pictures_text.specs.Order.{then_by}

-- ---- numbers one after another

pub count-split : (k a b : ℕ) → count_from k (a + b) ≡ count_from k a ++ count_from (k + a) b
unfolding count_from
count-split k zero b =
    let e : 0 + b ≡ b = omega arith in
    let f : k ≡ k + 0 = omega arith in
    ap (count_from k) e ∙ ap (λ (j : ℕ). count_from j b) f
count-split k (suc a) b =
    let e : suc a + b ≡ suc (a + b) = omega arith in
    let f : suc k + a ≡ k + suc a = omega arith in
    ap (count_from k) e ∙ ap (λ (l : List ℕ). k ∷ l) (count-split (suc k) a b ∙ ap (λ (j : ℕ). count_from (suc k) a ++ count_from j b) f)

pub count-of : (k n d : ℕ) → d < n → Memᴰ (k + d) (count_from k n)
unfolding count_from
count-of k zero d h = absurd (omega arith)
count-of k (suc n) zero h = let e : k + 0 ≡ k = omega arith in Memᴰ.head e
count-of k (suc n) (suc d) h =
    let e : suc k + d ≡ k + suc d = omega arith in
    Memᴰ.tail (subst (λ (j : ℕ). Memᴰ j (count_from (suc k) n)) e (count-of (suc k) n d (omega arith)))

-- ---- what is at each place

module _ {A B : Type 0} (g : ℕ → A) (h : ℕ → B) (q : ℕ) where
  abbrev at : ℕ → A × B
  at k = (g (k / q), h (k % q))

  row : (s j n : ℕ) → j + n ≤ q → map (λ y. (g s, y)) (map h (count_from j n)) ≡ map at (count_from (s * q + j) n)
  unfolding count_from
  row s j zero b = refl
  row s j (suc n) b =
      let lt : j < q = omega arith in
      let e : s * q + suc j ≡ suc (s * q + j) = omega arith in
      ap₂ (λ (x : A × B) (l : List (A × B)). x ∷ l)
      (ap₂ (λ (x : A) (y : B). (x, y)) (ap g (sym (div-mul-add s q j lt))) (ap h (sym (mod-mul-add s q j lt))))
      (row s (suc j) n (omega arith) ∙ ap (λ (i : ℕ). map at (count_from i n)) e)

  rows : (s p : ℕ) → pairs (map g (count_from s p)) (map h (up_to q)) ≡ map at (count_from (s * q) (p * q))
  unfolding count_from pairs flat_map
  rows s zero = let e : 0 * q ≡ 0 = omega arith in ap (λ (i : ℕ). map at (count_from (s * q) i)) (sym e)
  rows s (suc p) =
      let e : suc p * q ≡ q + p * q = omega arith in
      let f : suc s * q ≡ s * q + q = omega arith in
      let z : s * q + 0 ≡ s * q = omega arith in
      ap₂ (λ (l m : List (A × B)). l ++ m)
      (row s 0 q (omega arith) ∙ ap (λ (i : ℕ). map at (count_from i q)) z)
      (rows (suc s) p ∙ ap (λ (i : ℕ). map at (count_from i (p * q))) f)
      ∙ sym (map-append at (count_from (s * q) q) (count_from (s * q + q) (p * q)))
      ∙ ap (map at) (sym (count-split (s * q) q (p * q)) ∙ ap (count_from (s * q)) (sym e))

  pub pairs-at : (p : ℕ) → pairs (map g (up_to p)) (map h (up_to q)) ≡ map at (up_to (p * q))
  pairs-at p = let e : 0 * q ≡ 0 = omega arith in rows 0 p ∙ ap (λ (i : ℕ). map at (count_from i (p * q))) e

-- ---- in which order they are

append-ascends : {A : Type 0} (r : A → A → Bool) (a b : List A) → Ascending r a → Ascending r b → ((x y : A) → Memᴰ x a → Memᴰ y b → r x y ≡ true) → Ascending r (a ++ b)
append-ascends r [] b none v f = v
append-ascends r (x ∷ a) b (next g u) v f =
    next (λ y m. or (Memᴰ.append_cases a m) (g y) (f x y (Memᴰ.head refl))) (append-ascends r a b u v (λ z y m. f z y (Memᴰ.tail m)))

module _ {A B : Type 0} where
  pub pairs-in : (l : List A) (m : List B) (u : A × B) → Memᴰ u (pairs l m) → Memᴰ u.0 l × Memᴰ u.1 m
  unfolding pairs flat_map
  pairs-in [] m u k = absurd (Memᴰ.not-nil k)
  pairs-in (x ∷ l) m u k =
      or (Memᴰ.append_cases (map (λ y. (x, y)) m) k)
      (λ a. let r = map-from (λ y. (x, y)) m u a in (Memᴰ.head (ap (λ v. v.0) r.2), subst (λ y. Memᴰ y m) (sym (ap (λ v. v.1) r.2)) r.1))
      (λ b. let r = pairs-in l m u b in (Memᴰ.tail r.0, r.1))

  map-of : (x : A) (m : List B) (y : B) → Memᴰ y m → Memᴰ {A = A × B} (x, y) (map (λ z. (x, z)) m)
  map-of x [] y k = absurd (Memᴰ.not-nil k)
  map-of x (z ∷ m) y k = or (Memᴰ.cases_cons k) (λ e. Memᴰ.head (ap (λ w. (x, w)) e)) (λ t. Memᴰ.tail (map-of x m y t))

  pub pairs-of : (l : List A) (m : List B) (x : A) (y : B) → Memᴰ x l → Memᴰ y m → Memᴰ {A = A × B} (x, y) (pairs l m)
  unfolding pairs flat_map
  pairs-of [] m x y a b = absurd (Memᴰ.not-nil a)
  pairs-of (z ∷ l) m x y a b =
      or (Memᴰ.cases_cons a)
      (λ e. subst (λ w. Memᴰ {A = A × B} (x, y) (map (λ v. (w, v)) m ++ pairs l m)) e (Memᴰ.append_left (pairs l m) (map-of x m y b)))
      (λ t. Memᴰ.append_right (map (λ v. (z, v)) m) (pairs-of l m x y t b))

  module _ (p : A → A → Bool) (q : B → B → Bool) (strict : (x : A) → p x x ≡ false) where
    row-ascends : (x : A) (m : List B) → Ascending q m → Ascending (λ y z. then_by p q (x, y) (x, z)) m
    row-ascends x [] none = none
    row-ascends x (y ∷ m) (next f u) = next (λ z k. rw (strict x) (f z k)) (row-ascends x m u)

    pub pairs-ascend : (l : List A) (m : List B) → Ascending p l → Ascending q m → Ascending (then_by p q) (pairs l m)
    unfolding pairs flat_map
    pairs-ascend [] m none v = none
    pairs-ascend (x ∷ l) m (next f u) v =
        append-ascends (then_by p q) (map (λ y. (x, y)) m) (pairs l m)
        (ascending-map (λ y. (x, y)) (then_by p q) m (row-ascends x m v))
        (pairs-ascend l m u v)
        (λ a b i j.
        let r = map-from (λ y. (x, y)) m a i in
        let k = pairs-in l m b j in
        or_left (p a.0 b.0) _ (subst (λ w. p w b.0 ≡ true) (sym (ap (λ v. v.0) r.2)) (f b.0 k.0)))
