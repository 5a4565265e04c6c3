-- `root` is IEEE 754-2019's square_root on binary64, rounded to the nearest, ties to even: `SquareRoot` of specs/ holds of it at every
-- binary64 value x, and of no other result.
--   root-is-square_root : (x : Float) → T (fits binary64 x) → SquareRoot x (root x)
--   square_root-is-root : (x r : Float) → T (fits binary64 x) → SquareRoot x r → r ≡ root x
-- Together they are the claim of specs/Claims, `root-is-ieee754`.
-- The rest are the theorem's cases.
use Rattle.std.proofs.Common.{◌≡◌, ℕ, zero, suc, ◌+◌, ◌-◌, ◌*◌, ◌/◌, ◌%◌, ◌^◌, ◌<◌, ◌≤◌, Bool, true, false, T, ℤ, pos, negsuc, sym, refl, ap, ◌∙◌, subst, lt_trans, lt_of_le_of_lt, lt_irrefl, mul-le-mul, add_comm, le_antisymm, mul-pos, pow-suc, lt_of_not-le, arith, lit<, eqb→eq, pow_pos, ne_eqb, leb-false}
use native.Mathlib.Decide.{dec_le}
use borrow.Author.Tests.{lt-leb}
use lib.Ieee.{Float, nan, inf, fin, binary64, down, size, fits, of_bits, to_bits}
use lib.Ieee.Bits.{of_bits-to_bits, of_bits-fits}
use lib.Ieee.Fits.{up_pos}
use lib.Ieee.Positive.{positive_of_value, first_pos}
use Rattle.floats.specs.Root.{root, root_bits, root_of, root_finite, field_of, digits_in}
use Rattle.floats.specs.Claims.{RootIsIeee754}
use Rattle.floats.specs.SquareRoot.{SquareRoot, Nearest, Nearer, units, negative}
use Rattle.floats.proofs.Pattern.{Short, Bits, bits-value, value-units, units-value, of-value}
use Rattle.floats.proofs.Positives.{Best, best-bits}

-- ---- NaN, the infinities, the zeros
pub root-nan : root nan ≡ nan
unfolding root root_bits to_bits of_bits
root-nan = refl

pub root-infinity : root (inf false) ≡ inf false
unfolding root root_bits to_bits of_bits
root-infinity = refl

pub root-minus-infinity : root (inf true) ≡ nan
unfolding root root_bits to_bits of_bits
root-minus-infinity = refl

pub root-zero : (s : Bool) → root (fin s 0 (pos 0)) ≡ fin s 0 (pos 0)
unfolding root root_bits to_bits of_bits
root-zero true = refl
root-zero false = refl

-- a zero is written in one way
zero_is : (s : Bool) (e : ℤ) → T (fits binary64 (fin s zero e)) → e ≡ pos 0
unfolding fits
zero_is s (pos zero) f = refl
zero_is s (pos (suc k)) f = absurd (omega (arith, eqb→eq (2 ^ suc k * 1) 1 f, pow-suc 2 k))
zero_is s (negsuc k) f = absurd (omega (arith, eqb→eq (1 * 2 ^ suc k) 1 f, pow-suc 2 k))

-- ---- the pattern of a finite value that is not zero
some-units : (s : Bool) (m : ℕ) (e : ℤ) → T (fits binary64 (fin s (suc m) e)) → 0 < units (fin s (suc m) e)
some-units s m e f =
    let x = fin s (suc m) e in
    let p : 0 < suc m = omega arith in
    first_pos (units x) (down e) (subst (λ (z : ℕ). 0 < z) (units-value x f tt).value.1 (mul-pos (mul-pos p (up_pos e)) (pow_pos 1074)))

pattern : (s : Bool) (m : ℕ) (e : ℤ) → T (fits binary64 (fin s (suc m) e)) → Bits (to_bits binary64 (fin s (suc m) e)) s
pattern s m e f =
    let x = fin s (suc m) e in
    of-value (to_bits binary64 x) s (units x) (some-units s m e f) (rw (of_bits-to_bits binary64 x f) (units-value x f tt).value)

-- ---- below zero, of every size
pub root-negative : (m : ℕ) (e : ℤ) → T (fits binary64 (fin true (suc m) e)) → root (fin true (suc m) e) ≡ nan
unfolding root root_bits
root-negative m e f =
    let b = to_bits binary64 (fin true (suc m) e) in
    let p = pattern true m e f in
    rw (ne_eqb (b % 2 ^ 63) 0 p.some, p.sign)

-- ---- above zero
nearest-of-best : (S : ℕ) (r : Float) → T (fits binary64 r) → Best S r → Nearest S r
nearest-of-best S r f b = record {
  held = f;
  above_zero = positive_of_value r b.R (2 ^ 1074) b.value b.some;
  nearer = λ y fy gy. subst (λ (R : ℕ). Nearer S R (negative y) (units y)) (sym (value-units r false b.R b.value)) (by_sign (negative y) (units y) (units-value y fy gy).short);
}
  where
    nothing : Short 0
    nothing = record { digits = 0; shift = 0; few = lit< tt; is = refl }

    by_sign : (s : Bool) (Y : ℕ) → Short Y → Nearer S b.R s Y
    by_sign false Y h = (b.above Y h, b.below Y h)
    by_sign true Y h =
        let l : b.R - Y ≤ b.R + 0 = omega arith in
        lt_of_le_of_lt (mul-le-mul l l) (b.below 0 nothing b.some)

pub root-positive : (m : ℕ) (e : ℤ) → T (fits binary64 (fin false (suc m) e)) → Nearest (units (fin false (suc m) e) * 2 ^ 1074) (root (fin false (suc m) e))
unfolding root root_bits root_finite root_of
root-positive m e f =
    let x = fin false (suc m) e in
    let b = to_bits binary64 x in
    let p = pattern false m e f in
    let l : b < 2 ^ 63 = leb-false (2 ^ 63) b p.sign in
    let h : b < 0x7ff0_0000_0000_0000 = omega (arith, p.under) in
    let o : 0 < b = positive-bits b p.some in
    let v : units x ≡ digits_in b * 2 ^ (field_of b - 1) = value-units x false (digits_in b * 2 ^ (field_of b - 1)) (rw (of_bits-to_bits binary64 x f) at (bits-value b h)) in
    rw (ne_eqb (b % 2 ^ 63) 0 p.some, p.sign, lt-leb 0x7ff0_0000_0000_0000 b h, v)
    (nearest-of-best (digits_in b * 2 ^ (field_of b - 1) * 2 ^ 1074) (root_finite b) (of_bits-fits binary64 _) (best-bits b o h))
  where
    positive-bits : (b : ℕ) → (b % 2 ^ 63 ≡ 0 → ⊥) → 0 < b
    positive-bits b h = omega arith

-- ---- the theorem
pub root-is-square_root : (x : Float) → T (fits binary64 x) → SquareRoot x (root x)
root-is-square_root nan f = root-nan
root-is-square_root (inf false) f = root-infinity
root-is-square_root (inf true) f = root-minus-infinity
root-is-square_root (fin s zero e) f = rw (zero_is s e f) (root-zero s)
root-is-square_root (fin false (suc m) e) f = root-positive m e f
root-is-square_root (fin true (suc m) e) f = root-negative m e f

-- ---- there is no other
same_bits : (m n : ℕ) (e d : ℤ) → units (fin false m e) ≡ units (fin false n d) → to_bits binary64 (fin false m e) ≡ to_bits binary64 (fin false n d)
unfolding to_bits
same_bits m n e d h = ap (λ (u : ℕ). 0 + (size u - 53) * 2 ^ 52 + u / 2 ^ (size u - 53)) h

-- values of the same sign and as many units are one value, since their patterns are
same_units : (m n : ℕ) (e d : ℤ) → T (fits binary64 (fin false m e)) → T (fits binary64 (fin false n d)) → units (fin false m e) ≡ units (fin false n d) → fin false m e ≡ fin false n d
same_units m n e d f g h =
    sym (of_bits-to_bits binary64 (fin false m e) f) ∙ ap (of_bits binary64) (same_bits m n e d h) ∙ of_bits-to_bits binary64 (fin false n d) g

pub only_one : (S : ℕ) (r t : Float) → Nearest S r → Nearest S t → r ≡ t
only_one S nan t a b = absurd a.above_zero
only_one S (inf s) t a b = absurd a.above_zero
only_one S (fin true m e) t a b = absurd a.above_zero
only_one S (fin false m e) nan a b = absurd b.above_zero
only_one S (fin false m e) (inf s) a b = absurd b.above_zero
only_one S (fin false m e) (fin true n d) a b = absurd b.above_zero
only_one S (fin false m e) (fin false n d) a b = go (dec_le R Q) (dec_le Q R)
  where
    R : ℕ
    R = units (fin false m e)

    Q : ℕ
    Q = units (fin false n d)

    go : Dec (R ≤ Q) → Dec (Q ≤ R) → fin false m e ≡ fin false n d
    go (yes h) (yes k) = same_units m n e d a.held b.held (le_antisymm h k)
    go (no h) k = absurd (lt_irrefl (4 * S) (lt_trans ((b.nearer (fin false m e) a.held tt).0 (lt_of_not-le h)) (subst (λ (z : ℕ). z * z < 4 * S) (add_comm R Q) ((a.nearer (fin false n d) b.held tt).1 (lt_of_not-le h)))))
    go (yes h) (no k) = absurd (lt_irrefl (4 * S) (lt_trans ((a.nearer (fin false n d) b.held tt).0 (lt_of_not-le k)) (subst (λ (z : ℕ). z * z < 4 * S) (add_comm Q R) ((b.nearer (fin false m e) a.held tt).1 (lt_of_not-le k)))))

pub square_root-is-root : (x r : Float) → T (fits binary64 x) → SquareRoot x r → r ≡ root x
square_root-is-root nan r f h = h ∙ sym root-nan
square_root-is-root (inf false) r f h = h ∙ sym root-infinity
square_root-is-root (inf true) r f h = h ∙ sym root-minus-infinity
square_root-is-root (fin s zero e) r f h = h ∙ sym (root-is-square_root (fin s zero e) f)
square_root-is-root (fin false (suc m) e) r f h = only_one (units (fin false (suc m) e) * 2 ^ 1074) r (root (fin false (suc m) e)) h (root-positive m e f)
square_root-is-root (fin true (suc m) e) r f h = h ∙ sym (root-negative m e f)

-- what is claimed
pub root-is-ieee754 : RootIsIeee754
root-is-ieee754 = record { asked = root-is-square_root; only = square_root-is-root }
