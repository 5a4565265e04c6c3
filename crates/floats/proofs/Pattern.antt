-- Bit patterns and units: the units of the value that a positive finite pattern stands for, the pattern of a value, and that
-- the units of a finite value are a number of at most 53 digits, shifted.
use Rattle.std.proofs.Common.{◌≡◌, ℕ, zero, suc, ◌+◌, ◌-◌, ◌*◌, ◌/◌, ◌%◌, ◌^◌, ◌<◌, ◌≤◌, Bool, true, false, cond, ◌&&◌, T, eqb, ltb, leb, ◌⊎◌, ℤ, pos, negsuc, sym, refl, ap, ◌∙◌, subst, inl, inr, le_of_suc-le-suc, lt_of_le_of_lt, lt_irrefl, mul_assoc, eq-or-lt_of_le, pow-suc, lt_of_not-le, zero-mul, mul-one, mul-div_cancel, arith, lit<, ltb→lt, leb→le, pow-add, ne_eqb}
use borrow.Author.Tests.{lt-leb}
use lib.Pow.{pow-lt}
use lib.Ieee.{Float, nan, inf, fin, binary64, up, down, fits, of_bits, of_fields, odd}
use lib.Ieee.Exact.{HasValue, odd_sign}
use lib.Ieee.Fits.{and_l, and_r, down_pos}
use lib.Ieee.Scale.{finite}
use Rattle.floats.specs.Root.{field_of, digits_in}
use Rattle.floats.specs.SquareRoot.{units, negative}

-- ---- the value of a positive finite pattern
by_field : (b x : ℕ) → b < 0x7ff0_0000_0000_0000 → b / 2 ^ 52 ≡ x → HasValue (of_fields binary64 false x (b % 2 ^ 52)) false (cond (eqb x 0) (b % 2 ^ 52) (2 ^ 52 + b % 2 ^ 52) * 2 ^ (cond (eqb x 0) 1 x - 1)) (2 ^ 1074)
unfolding of_fields
by_field b zero h e = odd_sign 53 false (b % 2 ^ 52) 0 1074
by_field b (suc x) h e =
    let z : suc x - 1 ≡ x = omega arith in
    let l : suc x ≡ 2047 → ⊥ = λ k. omega arith in
    let o : suc x ≡ 0 → ⊥ = λ k. omega arith in
    rw (ne_eqb (suc x) 2047 l, ne_eqb (suc x) 0 o, z) (odd_sign 53 false (2 ^ 52 + b % 2 ^ 52) x 1074)

pub bits-value : (b : ℕ) → b < 0x7ff0_0000_0000_0000 → HasValue (of_bits binary64 b) false (digits_in b * 2 ^ (field_of b - 1)) (2 ^ 1074)
unfolding of_bits
bits-value b h =
    let t : b < 2 ^ 63 = omega arith in
    let f : b % 2 ^ 63 / 2 ^ 52 ≡ b / 2 ^ 52 = omega arith in
    rw (lt-leb (2 ^ 63) b t, f) (by_field b (b / 2 ^ 52) h refl)

-- the value that a field and 53 digits make, or a field and 2 ^ 53, which is carried into the field
digits-at : (b f : ℕ) → b / 2 ^ 52 ≡ suc f → digits_in b * 2 ^ (field_of b - 1) ≡ (2 ^ 52 + b % 2 ^ 52) * 2 ^ f
digits-at b f e = let z : suc f - 1 ≡ f = omega arith in grind (arith, z)

pub made-value : (f k : ℕ) → f < 2000 → 2 ^ 52 ≤ k → k ≤ 2 ^ 53 → HasValue (of_bits binary64 (f * 2 ^ 52 + k)) false (k * 2 ^ f) (2 ^ 1074)
made-value f k l lo hi = subst (λ (z : ℕ). HasValue (of_bits binary64 b) false z (2 ^ 1074)) (is (eq-or-lt_of_le hi)) (bits-value b (omega arith))
  where
    b : ℕ
    b = f * 2 ^ 52 + k

    is : (k ≡ 2 ^ 53) ⊎ (k < 2 ^ 53) → digits_in b * 2 ^ (field_of b - 1) ≡ k * 2 ^ f
    is (inl e) =
        let g : b / 2 ^ 52 ≡ suc (suc f) = omega arith in
        let d : 2 ^ 52 + b % 2 ^ 52 ≡ 2 ^ 52 = omega arith in
        digits-at b (suc f) g ∙ rw (d, e, pow-suc 2 f) (omega arith)
    is (inr h) =
        let g : b / 2 ^ 52 ≡ suc f = omega arith in
        let d : 2 ^ 52 + b % 2 ^ 52 ≡ k = omega arith in
        digits-at b f g ∙ ap (λ (z : ℕ). z * 2 ^ f) d

pub in-digits : (b : ℕ) → 0 < b → (0 < digits_in b) × (digits_in b < 2 ^ 53)
in-digits b h = grind arith

pub in_field : (b : ℕ) → b < 0x7ff0_0000_0000_0000 → (1 ≤ field_of b) × (field_of b < 2047)
in_field b h = grind arith

-- ---- the units of a value
le-of-pow : (i j : ℕ) → 2 ^ i ≤ 2 ^ j → i ≤ j
le-of-pow i j h = le_of_suc-le-suc (lt_of_not-le (λ (g : suc j ≤ i). lt_irrefl (2 ^ i) (lt_of_le_of_lt h (pow-lt g))))

-- m * 2 ^ e is m * 2 ^ d units, where 2 ^ e is no less than a unit
shifted : (m : ℕ) (e : ℤ) → down e ≤ 2 ^ 1074 → (d : ℕ) × (m * up e * 2 ^ 1074 ≡ m * 2 ^ d * down e)
shifted m (pos k) l = (k + 1074, mul_assoc m (2 ^ k) (2 ^ 1074) ∙ ap (λ (z : ℕ). m * z) (sym (pow-add 2 k 1074)) ∙ sym (mul-one (m * 2 ^ (k + 1074))))
shifted m (negsuc k) l =
    let s : suc k ≤ 1074 = le-of-pow (suc k) 1074 l in
    let c : 1074 - suc k + suc k ≡ 1074 = omega arith in (
      1074 - suc k,
      ap (λ (z : ℕ). z * 2 ^ 1074) (mul-one m) ∙ ap (λ (z : ℕ). m * 2 ^ z) (sym c) ∙ ap (λ (z : ℕ). m * z) (pow-add 2 (1074 - suc k) (suc k)) ∙ sym (mul_assoc m (2 ^ (1074 - suc k)) (2 ^ suc k)),
    )

-- a value of A units has A units
pub value-units : (x : Float) (s : Bool) (A : ℕ) → HasValue x s A (2 ^ 1074) → units x ≡ A
value-units nan s A h = absurd h
value-units (inf t) s A h = absurd h
value-units (fin t m e) s A h = ap (λ (z : ℕ). z / down e) h.1 ∙ mul-div_cancel A (down_pos e)

pub record Short (Y : ℕ) : Type 0 where
  pub digits : ℕ
  pub shift : ℕ
  pub few : digits < 2 ^ 53
  pub is : Y ≡ digits * 2 ^ shift

pub record Units (x : Float) : Type 0 where
  pub value : HasValue x (negative x) (units x) (2 ^ 1074)
  pub short : Short (units x)

of-short : (s : Bool) (m : ℕ) (e : ℤ) (d : ℕ) → m < 2 ^ 53 → m * up e * 2 ^ 1074 ≡ m * 2 ^ d * down e → Units (fin s m e)
of-short s m e d l h =
    let u : units (fin s m e) ≡ m * 2 ^ d = value-units (fin s m e) s (m * 2 ^ d) (refl, h) in
    record {
      value = (refl, h ∙ ap (λ (z : ℕ). z * down e) (sym u));
      short = record { digits = m; shift = d; few = l; is = u };
    }

-- nothing is lost in units: each finite value of binary64 is a whole number of them, and one of at most 53 digits, shifted
pub units-value : (x : Float) → T (fits binary64 x) → T (finite x) → Units x
unfolding fits
units-value nan f g = absurd g
units-value (inf s) f g = absurd g
units-value (fin s zero e) f g =
    of-short s 0 e 0 (lit< tt) (ap (λ (z : ℕ). z * 2 ^ 1074) (zero-mul (up e)) ∙ zero-mul (2 ^ 1074) ∙ sym (ap (λ (z : ℕ). z * down e) (zero-mul (2 ^ 0)) ∙ zero-mul (down e)))
units-value (fin s (suc m) e) f g =
    let A = eqb (suc m % 2) 1 in
    let B = ltb (suc m) (2 ^ 53) in
    let C = leb (down e) (2 ^ 1074) in
    let i = and_l (A && B && C) _ f in
    let p = shifted (suc m) e (leb→le (down e) (2 ^ 1074) (and_r (A && B) C i)) in
    of-short s (suc m) e p.0 (ltb→lt (suc m) (2 ^ 53) (and_r A B (and_l (A && B) C i))) p.1

-- ---- the pattern of a finite value that is not zero
odd-sign-is : (d : ℕ) (s : Bool) (q k l : ℕ) (t : Bool) (X c : ℕ) → HasValue (odd d s q k l) t X c → s ≡ t
unfolding odd
odd-sign-is d s zero k l t X c h = h.0
odd-sign-is d s (suc q) k l t X c h = h.0

record Finite (s t : Bool) (f g : ℕ) : Type 0 where
  sign : s ≡ t
  field : f ≡ 2047 → ⊥
  some : f ≡ 0 → g ≡ 0 → ⊥

none : (s t : Bool) (X : ℕ) → HasValue (odd 53 s 0 0 1074) t X (2 ^ 1074) → 0 ≡ X
unfolding odd
none s t X g = g.1 ∙ mul-one X

of-fields : (s t : Bool) (f g X : ℕ) → 0 < X → HasValue (of_fields binary64 s f g) t X (2 ^ 1074) → Finite s t f g
unfolding of_fields
of-fields s t zero g X p h = record {
  sign = odd-sign-is 53 s g 0 1074 t X (2 ^ 1074) h;
  field = λ e. omega arith;
  some = λ e z. lt_irrefl X (subst (λ (v : ℕ). v < X) (none s t X (rw z at h)) p);
}
of-fields s t (suc x) g X p h = go (eqb (suc x) 2047) (λ (e : suc x ≡ 2047). subst (λ (v : ℕ). T (eqb v 2047)) (sym e) tt) (eqb g 0) h
  where
    go : (b : Bool) → (suc x ≡ 2047 → T b) → (c : Bool) → HasValue (cond b (cond c (inf s) nan) (odd 53 s (2 ^ 52 + g) x 1074)) t X (2 ^ 1074) → Finite s t (suc x) g
    go true e true v = absurd v
    go true e false v = absurd v
    go false e c v = record { sign = odd-sign-is 53 s (2 ^ 52 + g) x 1074 t X (2 ^ 1074) v; field = e; some = λ z w. omega arith }

pub record Bits (b : ℕ) (s : Bool) : Type 0 where
  pub some : b % 2 ^ 63 ≡ 0 → ⊥
  pub sign : leb (2 ^ 63) b ≡ s
  pub under : b % 2 ^ 63 < 0x7ff0_0000_0000_0000

pub of-value : (b : ℕ) (s : Bool) (X : ℕ) → 0 < X → HasValue (of_bits binary64 b) s X (2 ^ 1074) → Bits b s
unfolding of_bits
of-value b s X p h =
    let g = of-fields (leb (2 ^ 63) b) s (b % 2 ^ 63 / 2 ^ 52) (b % 2 ^ 52) X p h in
    record { some = λ (z : b % 2 ^ 63 ≡ 0). g.some (omega arith) (omega arith); sign = g.sign; under = limit g.field }
  where
    limit : (b % 2 ^ 63 / 2 ^ 52 ≡ 2047 → ⊥) → b % 2 ^ 63 < 0x7ff0_0000_0000_0000
    limit f = omega arith
