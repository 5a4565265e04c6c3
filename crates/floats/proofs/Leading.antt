-- A number of at most 53 digits, with its leading digit brought to the 53rd place, where that of a normal stands.
use Rattle.std.proofs.Common.{◌≡◌, ℕ, suc, ◌+◌, ◌-◌, ◌*◌, ◌/◌, ◌%◌, ◌^◌, ◌<◌, ◌≤◌, true, false, eqb, sym, refl, ap, ◌∙◌, ap₂, le_trans, lt_trans, le_of_eq, lt_of_lt_of_le, lt_irrefl, mul-le-mul_right, mod-eq_of_lt, mul-lt-mul_of_pos_right, lt_of_not-le, arith, lit<, pow_pos, pow_mono, pow-add, eq-eqb, ne_eqb}
use lib.Count.{count_leading_zeros, leading_top}
use Rattle.floats.specs.Root.{root_of, root_finite}

pub record Placed (a z : ℕ) : Type 0 where
  pub low : 11 ≤ z
  pub high : z ≤ 63
  pub from : 2 ^ 52 ≤ a * 2 ^ (z - 11)
  pub under : a * 2 ^ (z - 11) < 2 ^ 53
  pub kept : a * 2 ^ (z - 11) % 2 ^ 64 ≡ a * 2 ^ (z - 11)

pub placed : (a : ℕ) → 0 < a → a < 2 ^ 53 → Placed a (count_leading_zeros 64 a)
placed a p h = at (count_leading_zeros 64 a) t.0 t.1 t.2 t.3
  where
    t : (j : ℕ) × (count_leading_zeros 64 a + suc j ≡ 64) × (2 ^ j ≤ a) × (a < 2 ^ suc j)
    t = leading_top 64 a p (lt_trans h (lit< tt))

    at : (z j : ℕ) → z + suc j ≡ 64 → 2 ^ j ≤ a → a < 2 ^ suc j → Placed a z
    at z j e lo hi =
        let n : j < 53 = lt_of_not-le (λ (k : 53 ≤ j). lt_irrefl a (lt_of_lt_of_le h (le_trans (pow_mono k) lo))) in
        let x : j + (z - 11) ≡ 52 = omega arith in
        let y : suc j + (z - 11) ≡ 53 = omega arith in
        let f : 2 ^ 52 ≤ a * 2 ^ (z - 11) = le_trans (le_of_eq (ap (λ (k : ℕ). 2 ^ k) (sym x) ∙ pow-add 2 j (z - 11))) (mul-le-mul_right (2 ^ (z - 11)) lo) in
        let u : a * 2 ^ (z - 11) < 2 ^ 53 = lt_of_lt_of_le (mul-lt-mul_of_pos_right hi (pow_pos (z - 11))) (le_of_eq (sym (ap (λ (k : ℕ). 2 ^ k) (sym y) ∙ pow-add 2 (suc j) (z - 11)))) in
        record { low = omega arith; high = omega arith; from = f; under = u; kept = mod-eq_of_lt (lt_trans u (lit< tt)) }

-- a number of 53 digits has its leading digit there
pub stands : (a : ℕ) → 2 ^ 52 ≤ a → a < 2 ^ 53 → count_leading_zeros 64 a ≡ 11
stands a l h =
    let t = leading_top 64 a (lt_of_lt_of_le (lit< tt) l) (lt_trans h (lit< tt)) in
    let u : t.0 < 53 = lt_of_not-le (λ (k : 53 ≤ t.0). lt_irrefl a (lt_of_lt_of_le h (le_trans (pow_mono k) t.2))) in
    let v : 52 < suc t.0 = lt_of_not-le (λ (k : suc t.0 ≤ 52). lt_irrefl a (lt_of_lt_of_le t.3 (le_trans (pow_mono k) l))) in
    omega (arith, t.1)

-- ---- the root of a positive finite value, by whether it is a normal

module _ (b : ℕ) where
  pub normal-root : 2 ^ 52 ≤ b → b < 2 ^ 63 → root_finite b ≡ root_of (2 ^ 52 + b % 2 ^ 52) (b / 2 ^ 52 + 1053)
  unfolding root_finite
  normal-root l h =
      let m = 2 ^ 52 + b % 2 ^ 52 in
      let n : eqb (b / 2 ^ 52) 0 ≡ false = ne_eqb (b / 2 ^ 52) 0 (λ e. omega arith) in
      let z : count_leading_zeros 64 m ≡ 11 = stands m (omega arith) (omega arith) in
      let x : m * 2 ^ (11 - 11) ≡ m = omega arith in
      let y : b / 2 ^ 52 + 1064 - 11 ≡ b / 2 ^ 52 + 1053 = omega arith in
      rw (n, z) (ap₂ root_of x y)

  pub subnormal-root : b < 2 ^ 52 → root_finite b ≡ root_of (b * 2 ^ (count_leading_zeros 64 b - 11)) (1065 - count_leading_zeros 64 b)
  unfolding root_finite
  subnormal-root h =
      let n : eqb (b / 2 ^ 52) 0 ≡ true = eq-eqb (b / 2 ^ 52) 0 (omega arith) in
      let d : b % 2 ^ 52 ≡ b = omega arith in
      rw (n, d) refl
