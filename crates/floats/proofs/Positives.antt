-- The root of a positive finite pattern, in units: nearer to the exact root than any other number of at most 53 digits, shifted.
use Rattle.std.proofs.Common.{◌≡◌, ℕ, zero, suc, ◌+◌, ◌-◌, ◌*◌, ◌/◌, ◌%◌, ◌^◌, ◌<◌, ◌≤◌, false, sym, refl, ap, ◌∙◌, subst, le_trans, le_of_eq, lt_of_lt_of_le, le_of_suc-le-suc, not-suc-le-zero, lt_of_le_of_lt, mul_assoc, mul_comm, mul-le-mul_left, mul-pos, mul-one, arith, lit<, pow_pos, pow-add}
use lib.Count.{count_leading_zeros}
use lib.Ieee.{Float}
use lib.Ieee.Exact.{HasValue}
use Rattle.floats.specs.Root.{root_of, root_finite, field_of, digits_in}
use Rattle.floats.proofs.Leading.{placed}
use Rattle.floats.proofs.Pattern.{Short, in-digits, in_field, made-value}
use Rattle.floats.proofs.Near as near

-- r is of R units, and strictly on its own side of the middle of R and any other short Y
pub record Best (S : ℕ) (r : Float) : Type 0 where
  pub R : ℕ
  pub some : 0 < R
  pub value : HasValue r false R (2 ^ 1074)
  pub above : (Y : ℕ) → Short Y → R < Y → 4 * S < (R + Y) * (R + Y)
  pub below : (Y : ℕ) → Short Y → Y < R → (R + Y) * (R + Y) < 4 * S

-- ---- four times the square of the root is n * w * w of `Near`
two : (b : ℕ) → b < 2 → 1 + b ≡ 2 ^ b
two zero h = refl
two (suc zero) h = refl
two (suc (suc b)) h = absurd (not-suc-le-zero (le_of_suc-le-suc (le_of_suc-le-suc h)))

join : (i j : ℕ) (a : ℕ) → a * 2 ^ i * 2 ^ j ≡ a * 2 ^ (i + j)
join i j a = mul_assoc a (2 ^ i) (2 ^ j) ∙ ap (λ (x : ℕ). a * x) (sym (pow-add 2 i j))

module _ (m z f : ℕ) (zl : 11 ≤ z) (zh : z ≤ 63) (fl : 1 ≤ f) where
  square-is : 4 * (m * 2 ^ (f - 1) * 2 ^ 1074) ≡ m * 2 ^ (z - 11) * (1 + (f + 1064 - z) % 2) * 4 ^ 28 * (2 ^ ((f + 1064 - z) / 2 - 17) * 2 ^ ((f + 1064 - z) / 2 - 17))
  square-is =
      let e = f + 1064 - z in
      let t = e / 2 - 17 in
      let b : e % 2 < 2 = omega arith in
      let x : f - 1 + 1074 + 2 ≡ z - 11 + e % 2 + 56 + t + t = omega arith in
      rw (two (e % 2) b)
      (mul_comm 4 (m * 2 ^ (f - 1) * 2 ^ 1074)
      ∙ ap (λ (w : ℕ). w * 4) (join (f - 1) 1074 m)
      ∙ join (f - 1 + 1074) 2 m
      ∙ ap (λ (w : ℕ). m * 2 ^ w) x
      ∙ sym (sym (mul_assoc (m * 2 ^ (z - 11) * 2 ^ (e % 2) * 4 ^ 28) (2 ^ t) (2 ^ t))
      ∙ ap (λ (w : ℕ). w * 2 ^ 56 * 2 ^ t * 2 ^ t) (join (z - 11) (e % 2) m)
      ∙ ap (λ (w : ℕ). w * 2 ^ t * 2 ^ t) (join (z - 11 + e % 2) 56 m)
      ∙ ap (λ (w : ℕ). w * 2 ^ t) (join (z - 11 + e % 2 + 56) t m)
      ∙ join (z - 11 + e % 2 + 56 + t) t m))

pub best-bits : (b : ℕ) → 0 < b → b < 0x7ff0_0000_0000_0000 → Best (digits_in b * 2 ^ (field_of b - 1) * 2 ^ 1074) (root_finite b)
unfolding root_finite root_of near.n
best-bits b lo hi =
    let d = in-digits b lo in
    let g = in_field b hi in
    let a = digits_in b in
    let z = count_leading_zeros 64 a in
    let p = placed a d.0 d.1 in
    let f = field_of b in
    let e = f + 1064 - z in
    let m = a * 2 ^ (z - 11) * (1 + e % 2) in
    let two-at-most : 1 + e % 2 ≤ 2 = omega arith in
    let one-at-least : 1 ≤ 1 + e % 2 = omega arith in
    let from : 2 ^ 52 ≤ m = le_trans p.from (le_trans (le_of_eq (sym (mul-one (a * 2 ^ (z - 11))))) (mul-le-mul_left (a * 2 ^ (z - 11)) one-at-least)) in
    let under : m < 2 ^ 54 = lt_of_le_of_lt (mul-le-mul_left (a * 2 ^ (z - 11)) two-at-most) (omega (arith, p.under)) in
    let t = e / 2 - 17 in
    let t-is : e / 2 - 16 ≡ suc t = omega (arith, p.low, p.high, g.0) in
    let t-lt : suc t < 2000 = omega (arith, p.low, g.1) in
    let sq = square-is a z f p.low p.high g.0 in
    let R = near.k m from under * 2 ^ suc t in
    record {
      R = R;
      some = mul-pos (lt_of_lt_of_le (lit< tt) (near.k-from m from under)) (pow_pos (suc t));
      value = rw (t-is, ← near.k-is m from under) (made-value (suc t) (near.k m from under) t-lt (near.k-from m from under) (near.k-to m from under));
      above = λ Y s l. lt_of_le_of_lt (le_of_eq sq)
          (subst (λ (v : ℕ). m * 4 ^ 28 * (2 ^ t * 2 ^ t) < (R + v) * (R + v)) (sym s.is)
          (near.above m from under t s.digits s.shift s.few (subst (λ (v : ℕ). R < v) s.is l)));
      below = λ Y s l. lt_of_lt_of_le
          (subst (λ (v : ℕ). (R + v) * (R + v) < m * 4 ^ 28 * (2 ^ t * 2 ^ t)) (sym s.is)
          (near.below m from under t s.digits s.shift s.few (subst (λ (v : ℕ). v < R) s.is l)))
          (le_of_eq (sym sq));
    }
