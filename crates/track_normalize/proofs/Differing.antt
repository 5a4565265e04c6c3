-- Laws of lists whose members differ.
use Prim.Native.Nat.{ℕ, zero, suc}
use mathlib.Core.Path.{◌≡◌, refl, sym, ◌∙◌}
use mathlib.Core.List.Memᴰ
use mathlib.Core.List.{List, [], ◌∷◌, ◌++◌, Memᴰ, Permᴰ}
use lib.ListN.{take}
use Rattle.lists.proofs.Bools.{or}
use Rattle.lists.proofs.Orders.{perm-mem}
use Rattle.track_normalize.proofs.Lowest.{front-in}
use Rattle.track_normalize.specs.Claims.{Differ, none, next}

module _ {A : Type 0} where
  abbrev Other : A → List A → Type 0
  Other x l = (y : A) → Memᴰ y l → x ≡ y → ⊥

  first-differs : {x : A} {l : List A} → Differ (x ∷ l) → Other x l
  first-differs (next f d) = f

  rest-differ : {x : A} {l : List A} → Differ (x ∷ l) → Differ l
  rest-differ (next f d) = d

  -- in another order
  pub perm-differ : {l m : List A} → Permᴰ l m → Differ l → Differ m
  perm-differ Permᴰ.nil d = none
  perm-differ (Permᴰ.cons {a = x} {l₁ = l} e p) d =
      next (λ y m q. first-differs d y (perm-mem p m) (e ∙ q)) (perm-differ p (rest-differ d))
  perm-differ (Permᴰ.swap {a = a} {b = b} {a' = c} {b' = e} {l = l} u v) d =
      next
      (λ y m q.
      or (Memᴰ.cases_cons m)
      (λ z. first-differs d b (Memᴰ.head refl) (u ∙ sym (q ∙ z) ∙ sym v))
      (λ k. first-differs (rest-differ d) y k (v ∙ q)))
      (next (λ y m q. first-differs d y (Memᴰ.tail m) (u ∙ q)) (rest-differ (rest-differ d)))
  perm-differ (Permᴰ.trans p q) d = perm-differ q (perm-differ p d)

  -- some of them
  pub take-differ : (k : ℕ) (l : List A) → Differ l → Differ (take k l)
  take-differ zero l d = none
  take-differ (suc k) [] d = none
  take-differ (suc k) (x ∷ l) d = next (λ y m q. first-differs d y (front-in k l m) q) (take-differ k l (rest-differ d))

  -- ---- two lists, one after the other

  pub both-differ : (l m : List A) → Differ l → Differ m → ((x y : A) → Memᴰ x l → Memᴰ y m → x ≡ y → ⊥) → Differ (l ++ m)
  both-differ [] m d e f = e
  both-differ (x ∷ l) m d e f =
      next
      (λ y k q. or (Memᴰ.append_cases l k) (λ z. first-differs d y z q) (λ z. f x y (Memᴰ.head refl) z q))
      (both-differ l m (rest-differ d) e (λ u v p q. f u v (Memᴰ.tail p) q))

  pub front-differ : (l m : List A) → Differ (l ++ m) → Differ l
  front-differ [] m d = none
  front-differ (x ∷ l) m d = next (λ y k q. first-differs d y (Memᴰ.append_left m k) q) (front-differ l m (rest-differ d))

  pub back-differ : (l m : List A) → Differ (l ++ m) → Differ m
  back-differ [] m d = d
  back-differ (x ∷ l) m d = back-differ l m (rest-differ d)

  pub cross-differ : (l m : List A) → Differ (l ++ m) → (x y : A) → Memᴰ x l → Memᴰ y m → x ≡ y → ⊥
  cross-differ [] m d x y p q e = Memᴰ.not-nil p
  cross-differ (z ∷ l) m d x y p q e =
      or (Memᴰ.cases_cons p)
      (λ u. first-differs d y (Memᴰ.append_right l q) (sym u ∙ e))
      (λ u. cross-differ l m (rest-differ d) x y u q e)
