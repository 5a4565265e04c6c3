-- The rounding of heights: what `metres` gives is the nearest whole metre, and of two equally near the even one.
use mathlib.Core.Path.{◌≡◌, refl, sym, ap, ◌∙◌}
use Prim.Native.Nat.{ℕ, zero, suc, ◌+◌, ◌-◌, ◌*◌, ◌/◌, ◌%◌, ◌≤◌, ◌<◌}
use native.Mathlib.Omega.{arith}
use native.Mathlib.Decide.{dec_lt, ℕ_discrete}
use native.Mathlib.Nat.{le_of_lt, le_of_eq, le_antisymm, not-le_of_lt, add_comm}
use borrow.Author.Tests.{ltb-true, ltb-false}
use lib.Dec.{ltb}
use lib.IntN.{ℤ, pos, negsuc, neg_ℤ, nat_abs, sub_ℕ, ◌+ℤ◌, ◌-ℤ◌, ◌*ℤ◌, neg_ℤ-neg_ℤ, neg_ℤ-+ℤ}
use Rattle.lists.proofs.Bools.{by}
use Rattle.text.specs.Heights.{rounded_metres, metres}
use Rattle.text.specs.Rounding.{distance, Even, NearestMetre}
use Rattle.text.specs.Claims.{MetresAreNearest, OnlyHalvesMoved}

-- ---- at a height from zero up

-- how far a and b are apart, in naturals, where one of the two differences is 0
abbrev gap : ℕ → ℕ → ℕ
gap a b = (a - b) + (b - a)

sub-gap : (a b : ℕ) → nat_abs (sub_ℕ a b) ≡ gap a b
sub-gap a b =
    by (ltb a b)
    (λ p. let l = ltb-true a b p in rw p (omega arith))
    (λ p. let l = ltb-false a b p in rw p (omega arith))

minus-gap : (a b : ℕ) → nat_abs (pos a -ℤ pos b) ≡ gap a b
minus-gap a zero = omega arith
minus-gap a (suc b) = sub-gap a (suc b)

apart_above : (n j : ℕ) → distance (pos n) (pos j) ≡ gap n (1000 * j)
apart_above n j = minus-gap n (1000 * j)

apart-across : (n j : ℕ) → distance (pos n) (negsuc j) ≡ n + 1000 * suc j
apart-across n j = ap (λ (z : ℤ). nat_abs (pos n +ℤ z)) (neg_ℤ-neg_ℤ (pos (1000 * suc j)))

nearest-above : (n j : ℕ) → gap n (1000 * rounded_metres n) ≤ gap n (1000 * j)
nearest-above n j = omega arith

nearest-across : (n j : ℕ) → gap n (1000 * rounded_metres n) < n + 1000 * suc j
nearest-across n j = omega arith

within-half : (n : ℕ) → gap n (1000 * rounded_metres n) ≤ 500
within-half n = omega arith

-- two metres equally near, and that near, lie half a metre below and above; so not both are even
half-way : (n a b : ℕ) → a < b → gap n (1000 * a) ≡ gap n (1000 * b) → gap n (1000 * a) ≤ 500 → (n ≡ 1000 * a + 500) × (b ≡ suc a)
half-way n a b l e h = (omega arith, omega arith)

equally-near : (n j r : ℕ) → (j ≡ r → ⊥) → gap n (1000 * j) ≡ gap n (1000 * r) → gap n (1000 * r) ≤ 500 → (n % 1000 ≡ 500) × ((j + r) % 2 ≡ 1)
equally-near n j r d e h = go (dec_lt j r)
  where
    halves : (a b : ℕ) → (n ≡ 1000 * a + 500) × (b ≡ suc a) → (n % 1000 ≡ 500) × ((a + b) % 2 ≡ 1)
    halves a b q = (omega (arith, q.0), omega (arith, q.1))

    go : Dec (j < r) → (n % 1000 ≡ 500) × ((j + r) % 2 ≡ 1)
    go (yes l) = halves j r (half-way n j r l e (rw e h))
    go (no l) = rw (add_comm j r) (halves r j (half-way n r j (omega (arith, l, d)) (sym e) h))

half-even : (n : ℕ) → n % 1000 ≡ 500 → rounded_metres n % 2 ≡ 0
half-even n h = let e : rounded_metres n ≡ n / 1000 + n / 1000 % 2 = omega arith in rw e (even_sum (n / 1000))
  where
    even_sum : (q : ℕ) → (q + q % 2) % 2 ≡ 0
    even_sum q = omega arith

asked-above : (n : ℕ) → NearestMetre (pos n) (pos (rounded_metres n))
asked-above n = record { nearest = near; even = tie }
  where
    near : (k : ℤ) → distance (pos n) (pos (rounded_metres n)) ≤ distance (pos n) k
    near (pos j) = rw (apart_above n (rounded_metres n), apart_above n j) (nearest-above n j)
    near (negsuc j) = rw (apart_above n (rounded_metres n), apart-across n j) (le_of_lt (nearest-across n j))

    tie : (k : ℤ) → (k ≡ pos (rounded_metres n) → ⊥) → distance (pos n) k ≡ distance (pos n) (pos (rounded_metres n)) → Even (pos (rounded_metres n))
    tie (pos j) d e = half-even n (equally-near n j (rounded_metres n) (λ q. d (ap pos q)) (sym (apart_above n j) ∙ e ∙ apart_above n (rounded_metres n)) (within-half n)).0
    tie (negsuc j) d e = absurd (not-le_of_lt (nearest-across n j) (le_of_eq (sym (apart-across n j) ∙ e ∙ apart_above n (rounded_metres n))))

-- ---- at a height below zero, as at the one as far above it

abs_neg : (z : ℤ) → nat_abs (neg_ℤ z) ≡ nat_abs z
abs_neg (pos zero) = refl
abs_neg (pos (suc n)) = refl
abs_neg (negsuc n) = refl

times-neg : (m : ℤ) → pos 1000 *ℤ neg_ℤ m ≡ neg_ℤ (pos 1000 *ℤ m)
times-neg (pos zero) = refl
times-neg (pos (suc n)) = refl
times-neg (negsuc n) = sym (neg_ℤ-neg_ℤ (pos (1000 * suc n)))

apart-neg : (h m : ℤ) → distance (neg_ℤ h) (neg_ℤ m) ≡ distance h m
apart-neg h m =
    ap (λ (z : ℤ). nat_abs (neg_ℤ h -ℤ z)) (times-neg m) ∙ ap nat_abs (sym (neg_ℤ-+ℤ h (neg_ℤ (pos 1000 *ℤ m)))) ∙ abs_neg (h -ℤ pos 1000 *ℤ m)

mirrored : (h m : ℤ) → NearestMetre h m → NearestMetre (neg_ℤ h) (neg_ℤ m)
mirrored h m a = record { nearest = near; even = tie }
  where
    opposite : (k : ℤ) → distance (neg_ℤ h) k ≡ distance h (neg_ℤ k)
    opposite k = ap (distance (neg_ℤ h)) (sym (neg_ℤ-neg_ℤ k)) ∙ apart-neg h (neg_ℤ k)

    near : (k : ℤ) → distance (neg_ℤ h) (neg_ℤ m) ≤ distance (neg_ℤ h) k
    near k = rw (apart-neg h m, opposite k) (a.nearest (neg_ℤ k))

    tie : (k : ℤ) → (k ≡ neg_ℤ m → ⊥) → distance (neg_ℤ h) k ≡ distance (neg_ℤ h) (neg_ℤ m) → Even (neg_ℤ m)
    tie k d e =
        rw (abs_neg m)
        (a.even (neg_ℤ k) (λ q. d (sym (neg_ℤ-neg_ℤ k) ∙ ap neg_ℤ q)) (sym (opposite k) ∙ e ∙ apart-neg h m))

-- ---- what is claimed

asked : (h : ℤ) → NearestMetre h (metres h)
asked (pos n) = asked-above n
asked (negsuc n) = mirrored (pos (suc n)) (pos (rounded_metres (suc n))) (asked-above (suc n))

only_above : (n : ℕ) (m : ℤ) → NearestMetre (pos n) m → m ≡ pos (rounded_metres n)
only_above n (pos j) a = go (ℕ_discrete j (rounded_metres n))
  where
    r : ℕ
    r = rounded_metres n

    not-both-even : (a b : ℕ) → (a + b) % 2 ≡ 1 → a % 2 ≡ 0 → b % 2 ≡ 0 → ⊥
    not-both-even a b h e f = omega arith

    same : distance (pos n) (pos j) ≡ distance (pos n) (pos r)
    same = le_antisymm (a.nearest (pos r)) ((asked-above n).nearest (pos j))

    go : Dec (j ≡ r) → pos j ≡ pos r
    go (yes e) = ap pos e
    go (no d) =
        absurd
        (not-both-even j r
        (equally-near n j r d (sym (apart_above n j) ∙ same ∙ apart_above n r) (within-half n)).1
        (a.even (pos r) (λ q. d (sym (ap nat_abs q))) (sym same))
        ((asked-above n).even (pos j) (λ q. d (ap nat_abs q)) same))
only_above n (negsuc j) a =
    absurd (not-le_of_lt (nearest-across n j) (rw (apart_above n (rounded_metres n), apart-across n j) at (a.nearest (pos (rounded_metres n)))))

only : (h m : ℤ) → NearestMetre h m → m ≡ metres h
only (pos n) m a = only_above n m a
only (negsuc n) m a = sym (neg_ℤ-neg_ℤ m) ∙ ap neg_ℤ (only_above (suc n) (neg_ℤ m) (mirrored (negsuc n) m a))

pub metres-are-nearest : MetresAreNearest
metres-are-nearest = record { asked = asked; only = only }

pub only-halves-moved : OnlyHalvesMoved
only-halves-moved (pos n) d = ap pos (omega arith)
only-halves-moved (negsuc n) d = let e : rounded_metres (suc n) ≡ (suc n + 500) / 1000 = omega arith in ap (λ (r : ℕ). neg_ℤ (pos r)) e
