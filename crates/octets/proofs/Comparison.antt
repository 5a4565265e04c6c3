-- Byte order is a strict order, and two strings neither of which comes before the other are equal. Then what a comparison goes by: bytes from a place
-- on, and words of several bytes.
use Prim.Native.Nat.{ℕ}
use mathlib.Core.Path.{◌≡◌, refl}
use mathlib.Core.Bool.{true, false}
use mathlib.Core.Logic.{◌⊎◌, inl, inr}
use mathlib.Core.List.{List, [], ◌∷◌}
use native.Mathlib.Omega.{arith}
use Rattle.octets.specs.Order.{is_before, same}
use Rattle.octets.specs.Lesser.{lesser_of}
use Rattle.lists.proofs.Bools.{by}

pub before-trans : (a b c : List ℕ) → is_before a b ≡ true → is_before b c ≡ true → is_before a c ≡ true
unfolding is_before
before-trans a [] c p q = grind arith
before-trans a (y ∷ ys) [] p q = grind arith
before-trans [] (y ∷ ys) (z ∷ zs) p q = refl
before-trans (x ∷ xs) (y ∷ ys) (z ∷ zs) p q = grind (arith, before-trans xs ys zs)

pub before-irrefl : (a : List ℕ) → is_before a a ≡ false
unfolding is_before
before-irrefl [] = refl
before-irrefl (x ∷ xs) = grind (arith, before-irrefl xs)

pub before-asym : (a b : List ℕ) → is_before a b ≡ true → is_before b a ≡ false
before-asym a b p = grind (arith, before-irrefl a, before-trans a b a)

pub before_same : (a b : List ℕ) → is_before a b ≡ false → is_before b a ≡ false → a ≡ b
unfolding is_before
before_same [] [] p q = refl
before_same [] (y ∷ ys) p q = grind arith
before_same (x ∷ xs) [] p q = grind arith
before_same (x ∷ xs) (y ∷ ys) p q = grind (arith, before_same xs ys)

-- exactly one of three
pub tri : (a b : List ℕ) → (is_before a b ≡ true) ⊎ ((a ≡ b) ⊎ (is_before b a ≡ true))
tri a b = by (is_before a b) inl (λ p. inr (by (is_before b a) inr (λ q. inl (before_same a b p q))))

-- a is not after b, and b is before c
pub before-le : (a b c : List ℕ) → is_before b a ≡ false → is_before b c ≡ true → is_before a c ≡ true
before-le a b c p q = grind (arith, tri a b, before-trans a b c)

pub same_refl : (a : List ℕ) → same a a ≡ true
unfolding same
same_refl a = rw (before-irrefl a) refl

pub less-same : (a b : List ℕ) → is_before a b ≡ true → same a b ≡ false
unfolding same
less-same a b h = rw h refl

pub more_same : (a b : List ℕ) → is_before b a ≡ true → same a b ≡ false
unfolding same
more_same a b h = rw (before-asym b a h, h) refl

pub same-eq : (a b : List ℕ) → same a b ≡ true → a ≡ b
unfolding same
same-eq a b h = grind (arith, before_same a b)

-- the lesser of two is one of them, and neither of them comes before it
pub lesser-least : (a b : List ℕ) → (is_before a (lesser_of a b) ≡ false) × (is_before b (lesser_of a b) ≡ false)
lesser-least a b = grind (arith, before-asym b a, before-irrefl)

-- which of the two is lent first does not matter
pub lesser-comm : (a b : List ℕ) → lesser_of a b ≡ lesser_of b a
lesser-comm a b = grind (arith, before-asym a b, before_same a b)

pub not_same : (a b : List ℕ) → (a ≡ b → ⊥) → same a b ≡ false
not_same a b f = grind (arith, same-eq a b)
