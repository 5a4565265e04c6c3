-- A test that no fewer members of a list pass than another that is wider passes the same.
use Rattle.std.proofs.Common.{◌≤◌, ◌≡◌, refl, ap, ◌∙◌, Bool, true, List, [], ◌∷◌, arith, length}
use mathlib.Core.List.Memᴰ
use mathlib.Core.List.{Memᴰ}
use Rattle.lists.proofs.Bools.{by, or}
use Rattle.std.specs.List.{filter}
use Rattle.lists.proofs.Lists.{filter-few}

module _ {A : Type 0} where
  -- a wider test passes as many, and where no more, the same
  module _ (p q : A → Bool) where
    pub filter-wider : (l : List A) → ((x : A) → Memᴰ x l → p x ≡ true → q x ≡ true) → length (filter p l) ≤ length (filter q l)
    filter-wider [] w = omega arith
    filter-wider (y ∷ l) w = grind (arith, filter-wider l (λ (x : A) (m : Memᴰ x l). w x (Memᴰ.tail m)), w y (Memᴰ.head refl))

    pub filter-no-wider : (l : List A) → ((x : A) → Memᴰ x l → p x ≡ true → q x ≡ true) → length (filter q l) ≤ length (filter p l) → filter q l ≡ filter p l
    filter-no-wider [] w h = refl
    filter-no-wider (y ∷ l) w h =
        let v : (x : A) → Memᴰ x l → p x ≡ true → q x ≡ true = λ x m. w x (Memᴰ.tail m) in
        grind (arith, filter-wider l v, filter-no-wider l v, w y (Memᴰ.head refl))

  -- a test that as many pass as there are is passed by all
  pub filter-all : (p : A → Bool) (l : List A) → length l ≤ length (filter p l) → (x : A) → Memᴰ x l → p x ≡ true
  filter-all p [] h x m = absurd (Memᴰ.not-nil m)
  filter-all p (y ∷ l) h x m =
      by (p y)
      (λ u. or (Memᴰ.cases_cons m) (λ e. ap p e ∙ u) (λ k. filter-all p l (let g = rw u at h in omega arith) x k))
      (λ u. absurd (let g = rw u at h in let f = filter-few p l in omega arith))
