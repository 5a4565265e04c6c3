-- The five ranges of an angle, the laws of the formula's division, and that the ranges give what it gives.
use mathlib.Core.Path.{◌≡◌, refl, sym, ap, ◌∙◌}
use Prim.Native.Nat.{ℕ, zero, suc, ◌+◌, ◌-◌, ◌*◌, ◌/◌, ◌%◌, ◌≤◌, ◌<◌}
use native.Mathlib.Nat.{lt_of_le_of_lt, le_trans, le_of_lt}
use native.Mathlib.Decide.{dec_lt}
use native.Mathlib.Omega.{arith}
use borrow.Author.Tests.{lt-ltb, le-ltb}
use lib.Dec.{le→leb, lt→ltb, leb→le, ltb→lt, lit<}
use lib.IntN.{ℤ, pos, negsuc, sub_ℕ, neg_ℤ, neg_ℤ-neg_ℤ, ◌+ℤ◌, ◌-ℤ◌, ◌*ℤ◌, +ℤ_comm, -ℤ-+ℤ_cancel}
use lib.Ieee.{Float}
use lib.Signed.{◌≤ℤ◌, ◌<ℤ◌}
use Rattle.geometry.specs.Angles.{quadrant_of, right_angles, rest_of, turn_of, sincos_of, radians_of, sine_of, cosine_of}
use Rattle.geometry.specs.Formula.{floor_div, floor_mod, formula_q, formula_turn, formula_sincos}
use Rattle.geometry.specs.Claims.{InRange, CoveredOnce, QuadrantAndRest, InI32, InFive, RangesAreTheFormula, Edges}
use Rattle.geometry.specs.declared.angles.Quadrant.{Quadrant}
use Rattle.geometry.specs.declared.angles.Quadrant.TheVariants.{MinusTwo, MinusOne, Zero, One, Two}

sub-up : (a b : ℕ) → b ≤ a → sub_ℕ a b ≡ pos (a - b)
sub-up a b h = rw (le-ltb a b h)

sub-down : (a b : ℕ) → a < b → sub_ℕ a b ≡ negsuc (b - suc a)
sub-down a b h = rw (lt-ltb a b h)

minus_is : (a b : ℕ) → pos a -ℤ pos b ≡ sub_ℕ a b
minus_is a zero = sym (sub-up a 0 (omega arith) ∙ ap pos (omega arith))
minus_is a (suc b) = refl

neg-minus-is : (a b : ℕ) → negsuc a -ℤ pos b ≡ negsuc (a + b)
neg-minus-is a zero = sub-down 0 (suc a) (omega arith) ∙ ap negsuc (omega arith)
neg-minus-is a (suc b) = ap negsuc (omega arith)

neg-plus-is : (a b : ℕ) → neg_ℤ (pos a) +ℤ pos b ≡ sub_ℕ b a
neg-plus-is zero b = ap pos (omega arith) ∙ sym (sub-up b 0 (omega arith))
neg-plus-is (suc a) b = refl

-- ---- the order of integers, in the order of naturals: -(a + 1) is negsuc a

up : {a b : ℕ} → a ≤ b → pos a ≤ℤ pos b
up {a} {b} h = record { le = le→leb a b h }

down : {a b : ℕ} → b ≤ a → negsuc a ≤ℤ negsuc b
down {a} {b} h = record { le = le→leb b a h }

across : {a b : ℕ} → negsuc a ≤ℤ pos b
across = record { le = tt }

up-below : {a b : ℕ} → a < b → pos a <ℤ pos b
up-below {a} {b} h = record { lt = lt→ltb a b h }

down-below : {a b : ℕ} → b < a → negsuc a <ℤ negsuc b
down-below {a} {b} h = record { lt = lt→ltb b a h }

across-below : {a b : ℕ} → negsuc a <ℤ pos b
across-below = record { lt = tt }

-- ---- which range an angle is in

-- of -(n + 1) and of n, by how great n is
two-below : (n : ℕ) → 1349999999 < n → quadrant_of (negsuc n) ≡ MinusTwo
two-below n h = rw (lt-ltb 1349999999 n h)

one_below : (n : ℕ) → 449999999 < n → n ≤ 1349999999 → quadrant_of (negsuc n) ≡ MinusOne
one_below n l h = rw (le-ltb 1349999999 n h, lt-ltb 449999999 n l)

none_below : (n : ℕ) → n ≤ 449999999 → quadrant_of (negsuc n) ≡ Zero
none_below n h = rw (le-ltb 1349999999 n (omega arith), le-ltb 449999999 n h)

none_above : (n : ℕ) → n < 450000000 → quadrant_of (pos n) ≡ Zero
none_above n h = rw (lt-ltb n 450000000 h)

one-above : (n : ℕ) → 450000000 ≤ n → n < 1350000000 → quadrant_of (pos n) ≡ One
one-above n l h = rw (le-ltb n 450000000 l, lt-ltb n 1350000000 h)

two-above : (n : ℕ) → 1350000000 ≤ n → quadrant_of (pos n) ≡ Two
two-above n l = rw (le-ltb n 450000000 (omega arith), le-ltb n 1350000000 l)

covered : (v : ℤ) → InRange (quadrant_of v) v
covered (pos n) = go (dec_lt n 450000000) (dec_lt n 1350000000)
  where
    go : Dec (n < 450000000) → Dec (n < 1350000000) → InRange (quadrant_of (pos n)) (pos n)
    go (yes h) _ = rw (none_above n h) (across, up-below h)
    go (no l) (yes h) = rw (one-above n (omega arith) h) (up (omega arith), up-below h)
    go (no l) (no h) = rw (two-above n (omega arith)) (up (omega arith))
covered (negsuc n) = go (dec_lt 449999999 n) (dec_lt 1349999999 n)
  where
    go : Dec (449999999 < n) → Dec (1349999999 < n) → InRange (quadrant_of (negsuc n)) (negsuc n)
    go (no h) _ = rw (none_below n (omega arith)) (down (omega arith), across-below)
    go (yes l) (no h) = rw (one_below n l (omega arith)) (down (omega arith), down-below l)
    go (yes l) (yes h) = rw (two-below n h) (down-below h)

pub once : (v : ℤ) (q : Quadrant) → InRange q v → quadrant_of v ≡ q
once (negsuc n) MinusTwo h = two-below n (ltb→lt 1349999999 n h.lt)
once (negsuc n) MinusOne h = one_below n (ltb→lt 449999999 n h.1.lt) (leb→le n 1349999999 h.0.le)
once (negsuc n) Zero h = none_below n (leb→le n 449999999 h.0.le)
once (negsuc n) One h = absurd h.0.le
once (negsuc n) Two h = absurd h.le
once (pos n) MinusTwo h = absurd h.lt
once (pos n) MinusOne h = absurd h.1.lt
once (pos n) Zero h = none_above n (ltb→lt n 450000000 h.1.lt)
once (pos n) One h = one-above n (leb→le 450000000 n h.0.le) (ltb→lt n 1350000000 h.1.lt)
once (pos n) Two h = two-above n (leb→le 1350000000 n h.le)

pub covered-once : CoveredOnce
covered-once = record { covered = covered; once = once }

-- ---- the laws of the formula's division, which say which q and r they are: for every integer v

-- v = 900,000,000 q + r
whole_law : (v : ℤ) → v ≡ pos 900000000 *ℤ formula_q v +ℤ rest_of (formula_q v) v
whole_law v =
    sym (-ℤ-+ℤ_cancel v (pos 900000000 *ℤ formula_q v)) ∙ +ℤ_comm (rest_of (formula_q v) v) (pos 900000000 *ℤ formula_q v)

within : (a b : ℕ) → b ≤ a + 450000000 → a < b + 450000000 → InRange Zero (sub_ℕ a b)
within a b h l = go (dec_lt a b)
  where
    go : Dec (a < b) → InRange Zero (sub_ℕ a b)
    go (yes d) = rw (sub-down a b d) (down (omega arith), across-below)
    go (no d) = rw (sub-up a b (omega arith)) (across, up-below (omega arith))

rest_in : (v : ℤ) → InRange Zero (rest_of (formula_q v) v)
rest_in (pos n) =
    let q = (n + 450000000) / 900000000 in
    rw (minus_is n (900000000 * q)) (within n (900000000 * q) (omega arith) (omega arith))
rest_in (negsuc n) = go (dec_lt 449999999 n)
  where
    go : Dec (449999999 < n) → InRange Zero (rest_of (formula_q (negsuc n)) (negsuc n))
    go (yes l) =
        let k = (suc n - suc 450000000) / 900000000 in
        rw (sub-down 450000000 (suc n) (omega arith), neg_ℤ-neg_ℤ)
        (within (900000000 * suc k) (suc n) (omega arith) (omega arith))
    go (no l) =
        let q = (450000000 - suc n) / 900000000 in
        rw (sub-up 450000000 (suc n) (omega arith), neg-minus-is n (900000000 * q))
        (down (omega arith), across-below)

-- q = 4 (q / 4) + (q % 4)
fours : (q : ℤ) → q ≡ pos 4 *ℤ floor_div q 4 +ℤ pos (floor_mod q 4)
fours (pos n) = ap pos (omega arith)
fours (negsuc n) =
    sym
    (neg-plus-is (4 * suc (n / 4)) (4 - 1 - n % 4)
    ∙ sub-down (4 - 1 - n % 4) (4 * suc (n / 4)) (omega arith)
    ∙ ap negsuc (omega arith))

below_four : (q : ℤ) → floor_mod q 4 < 4
below_four (pos n) = omega arith
below_four (negsuc n) = omega arith

pub quadrant-and-rest : QuadrantAndRest
quadrant-and-rest = record { whole_law = whole_law; rest_in = rest_in; fours = fours; below_four = below_four }

-- ---- the ranges give what the formula gives

five : (v : ℤ) → InI32 v → InFive v
five (pos n) h = (across, up-below (lt_of_le_of_lt (leb→le n 2147483647 h.1.le) (lit< tt)))
five (negsuc n) h = (down (le_trans (leb→le n 2147483647 h.0.le) (le_of_lt (lit< tt))), across-below)

quadrant : (v : ℤ) → InFive v → right_angles (quadrant_of v) ≡ formula_q v
quadrant (pos n) h = go (dec_lt n 450000000) (dec_lt n 1350000000)
  where
    below : n < 2250000000
    below = ltb→lt n 2250000000 h.1.lt

    go : Dec (n < 450000000) → Dec (n < 1350000000) → right_angles (quadrant_of (pos n)) ≡ formula_q (pos n)
    go (yes l) _ = rw (none_above n l) (ap pos (omega arith))
    go (no l) (yes m) = rw (one-above n (omega arith) m) (ap pos (omega arith))
    go (no l) (no m) = rw (two-above n (omega arith)) (ap pos (omega (arith, below)))
quadrant (negsuc n) h = go (dec_lt 449999999 n) (dec_lt 1349999999 n)
  where
    above : n ≤ 2249999999
    above = leb→le n 2249999999 h.0.le

    go : Dec (449999999 < n) → Dec (1349999999 < n) → right_angles (quadrant_of (negsuc n)) ≡ formula_q (negsuc n)
    go (no l) _ = rw (none_below n (omega arith), sub-up 450000000 (suc n) (omega arith)) (ap pos (omega arith))
    go (yes l) (no m) = rw (one_below n l (omega arith), sub-down 450000000 (suc n) (omega arith)) (ap negsuc (omega arith))
    go (yes l) (yes m) = rw (two-below n m, sub-down 450000000 (suc n) (omega arith)) (ap negsuc (omega (arith, above)))

no_other : (v : ℤ) → right_angles (quadrant_of v) ≡ formula_q v → InFive v
no_other (pos n) e = go (dec_lt n 2250000000)
  where
    inner : (a b : ℕ) → pos a ≡ pos b → a ≡ b
    inner a b e = cc

    go : Dec (n < 2250000000) → InFive (pos n)
    go (yes h) = (across, up-below h)
    go (no h) =
        let same = inner 2 ((n + 450000000) / 900000000) (rw (two-above n (omega arith)) at e) in
        absurd (omega arith)
no_other (negsuc n) e = go (dec_lt 2249999999 n)
  where
    inner : (a b : ℕ) → negsuc a ≡ negsuc b → a ≡ b
    inner a b e = cc

    go : Dec (2249999999 < n) → InFive (negsuc n)
    go (no h) = (down (omega arith), across-below)
    go (yes h) =
        let same = inner 1 ((suc n - suc 450000000) / 900000000) (rw (two-below n (omega arith), sub-down 450000000 (suc n) (omega arith)) at e) in
        absurd (omega arith)

rest : (v : ℤ) → InFive v → InRange Zero (rest_of (right_angles (quadrant_of v)) v)
rest v h = rw (quadrant v h) (rest_in v)

-- what a range takes is what the remainder of its q takes
taken : (q : Quadrant) (s c : Float) → turn_of q s c ≡ formula_turn (floor_mod (right_angles q) 4) s c
taken MinusTwo s c = refl
taken MinusOne s c = refl
taken Zero s c = refl
taken One s c = refl
taken Two s c = refl

turn : (v : ℤ) → InFive v → (s c : Float) → turn_of (quadrant_of v) s c ≡ formula_turn (floor_mod (formula_q v) 4) s c
turn v h s c = taken (quadrant_of v) s c ∙ ap (λ q. formula_turn (floor_mod q 4) s c) (quadrant v h)

sincos : (v : ℤ) → InFive v → sincos_of v ≡ formula_sincos v
unfolding sincos_of formula_sincos
sincos v h =
    let t : ℤ → Float = λ q. radians_of (rest_of q v) in
    turn v h (sine_of (t (right_angles (quadrant_of v)))) (cosine_of (t (right_angles (quadrant_of v))))
    ∙ ap (λ q. formula_turn (floor_mod (formula_q v) 4) (sine_of (t q)) (cosine_of (t q))) (quadrant v h)

pub ranges-are-the-formula : RangesAreTheFormula
ranges-are-the-formula =
    record {
      five = five;
      quadrant = quadrant;
      no_other = no_other;
      rest = rest;
      remainder = λ v h. ap (λ q. floor_mod q 4) (quadrant v h);
      turn = turn;
      sincos = sincos;
    }

pub edges : Edges
edges =
    record {
      least = (refl, refl);
      last_minus_two = (refl, refl);
      first_minus_one = (refl, refl);
      last_minus_one = (refl, refl);
      first_zero = (refl, refl);
      last_zero = (refl, refl);
      first_one = (refl, refl);
      last_one = (refl, refl);
      first_two = (refl, refl);
      greatest = (refl, refl);
    }
