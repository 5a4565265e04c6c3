-- A list of the lowest members, into which a further one goes behind those that come before it: it is the front of a sort.
use Prim.Native.Nat.{ℕ, zero, suc, ◌+◌, ◌-◌, ◌≤◌, ◌<◌}
use mathlib.Core.Path.{◌≡◌, refl, sym, ap, ap₂, ◌∙◌, subst}
use mathlib.Core.Bool.{Bool, not}
use mathlib.Core.List.Memᴰ
use mathlib.Core.List.{List, [], ◌∷◌, map, Memᴰ}
use native.Mathlib.Omega.{arith}
use lib.Dec.{ltb}
use lib.ListN.{length, get_or, take, drop, take-append-drop, drop_of_length-le}
use lib.Seq.{take-take, drop-cons}
use borrow.Author.Tests.{ltb-false}
use Rattle.std.specs.List as S
use Rattle.std.specs.List.{position, position_or_len}
use Rattle.std.specs.Option.{unwrap_or}
use Rattle.std.specs.Prelude.{Option}
use Rattle.std.proofs.lemmas.List.Sums.{prefix_len-le-length}
use Rattle.lists.specs.Lists.{insert, sort}
use Rattle.lists.proofs.Bools.{by}

module _ {A : Type 0} where
  -- x put in among the front of a list
  pub put-short : (n : ℕ) (l : List A) (p : ℕ) (x : A) → p ≤ n → S.insert (take n l) p x ≡ take (suc n) (S.insert l p x)
  put-short zero l zero x h = refl
  put-short zero l (suc p) x h = absurd (omega arith)
  put-short (suc n) [] p x h = short p
    where
      short : (p : ℕ) → S.insert [] p x ≡ take (suc (suc n)) (S.insert [] p x)
      short zero = refl
      short (suc p) = refl
  put-short (suc n) (y ∷ l) zero x h = refl
  put-short (suc n) (y ∷ l) (suc p) x h = ap (λ (m : List A). y ∷ m) (put-short n l p x (omega arith))

  -- behind as many as there is room for
  pub put-behind : (n : ℕ) (l : List A) (p : ℕ) (x : A) → length l ≤ n → n ≤ p → p ≤ length l → l ≡ take n (S.insert l p x)
  put-behind zero [] zero x h g f = refl
  put-behind (suc n) [] p x h g f = absurd (omega arith)
  put-behind zero [] (suc p) x h g f = absurd (omega arith)
  put-behind zero (y ∷ l) p x h g f = absurd (omega arith)
  put-behind (suc n) (y ∷ l) zero x h g f = absurd (omega arith)
  put-behind (suc n) (y ∷ l) (suc p) x h g f = ap (λ (m : List A). y ∷ m) (put-behind n l p x (omega arith) (omega arith) (omega arith))

  module _ (before : A → A → Bool) where
    put-in : (x : A) (l : List A) → insert before x l ≡ S.insert l (position_or_len (λ y. not (before y x)) l) x
    unfolding insert
    put-in x [] = refl
    put-in x (y ∷ l) =
        let n = position_or_len (λ z. not (before z x)) l in
        let e : 1 + n ≡ suc n = omega arith in
        by (before y x) (λ t. rw (t, e) (ap (λ (z : List A). y ∷ z) (put-in x l))) (λ t. rw t refl)

    -- the place where a search finds the first that x goes before, or the end
    pub sought : (x : A) (l : List A) (o : Option ℕ) → o ≡ position (λ y. not (before y x)) l
        → (insert before x l ≡ S.insert l (unwrap_or o (length l)) x) × (unwrap_or o (length l) ≤ length l)
    sought x l o e =
        let n = position_or_len (λ y. not (before y x)) l in
        let b = prefix_len-le-length (λ y. not (not (before y x))) l in
        let at : unwrap_or o (length l) ≡ n =
        ap (λ (q : Option ℕ). unwrap_or q (length l)) e
        ∙ by (ltb n (length l)) (λ t. rw t refl) (λ t. rw t (let a = ltb-false n (length l) t in omega arith))
        in (
          put-in x l ∙ ap (λ (i : ℕ). S.insert l i x) (sym at),
          omega (arith, at),
        )

    -- of the front of a list
    take-insert : (x : A) (k : ℕ) (l : List A) → take k (insert before x (take k l)) ≡ take k (insert before x l)
    unfolding insert
    take-insert x zero l = refl
    take-insert x (suc k) [] = refl
    take-insert x (suc k) (y ∷ l) =
        by (before y x)
        (λ t. rw t (ap (λ (m : List A). y ∷ m) (take-insert x k l)))
        (λ t. rw t (ap (λ (m : List A). x ∷ m) (fewer k)))
      where
        fewer : (k : ℕ) → take k (y ∷ take k l) ≡ take k (y ∷ l)
        fewer zero = refl
        fewer (suc k) = ap (λ (m : List A). y ∷ m) (take-take k (suc k) l (omega arith))

    -- a loop that puts each in, from the last on
    pub lowest-none : {B : Type 0} (n : ℕ) (f : B → A) (l : List B) (k : ℕ) → length l ≤ k → [] ≡ take n (sort before (map f (drop k l)))
    unfolding sort
    lowest-none n f l k h = rw (drop_of_length-le l {i = k} h) (none n)
      where
        none : (n : ℕ) → ◌≡◌ {A = List A} [] (take n [])
        none zero = refl
        none (suc n) = refl

    pub lowest-turn : {B : Type 0} (n : ℕ) (f : B → A) (l : List B) (k : ℕ) (x : A) (d : B) (m : List A) → 0 < k → k ≤ length l → x ≡ f (get_or l (k - 1) d)
        → m ≡ take n (sort before (map f (drop k l)))
        → take n (insert before x m) ≡ take n (sort before (map f (drop (k - 1) l)))
    unfolding sort
    lowest-turn {B = B} n f l k x d m h g e i =
        let z : suc (k - 1) ≡ k = omega arith in
        ap₂ (λ (y : A) (j : List A). take n (insert before y j)) e i
        ∙ take-insert (f (get_or l (k - 1) d)) n (sort before (map f (drop k l)))
        ∙ ap (λ (j : List B). take n (sort before (map f j))) (sym (drop-cons l (k - 1) d (omega arith) ∙ ap (λ (i : ℕ). get_or l (k - 1) d ∷ drop i l) z))

-- a member of the front is one of the list
pub front-in : {A : Type 0} (k : ℕ) (l : List A) {x : A} → Memᴰ x (take k l) → Memᴰ x l
front-in {A = A} k l {x} m = subst (λ (z : List A). Memᴰ x z) (take-append-drop k l) (Memᴰ.append_left (drop k l) m)
