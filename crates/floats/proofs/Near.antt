-- The digits that are kept of a root are nearer to it than any other number of at most 53 digits, shifted. In whole numbers, with squares in the place of roots.
use Rattle.std.proofs.Common.{◌≡◌, ℕ, suc, ◌+◌, ◌-◌, ◌*◌, ◌%◌, ◌^◌, ◌<◌, ◌≤◌, ◌⊎◌, sym, refl, ap, ◌∙◌, subst, inl, inr, le_trans, le_of_eq, lt_of_lt_of_le, le_of_suc-le-suc, le-add_right, lt_of_le_of_lt, le_of_lt, lt_irrefl, mul-le-mul_right, mul_assoc, add-mul, le_antisymm, lt_of_mul-lt-mul_right, eq-or-lt_of_le, mul-le-mul_left, mul-lt-mul_of_pos_right, mul-pos, one-mul, pow-suc, lt_of_not-le, add-one, arith, lit<, lit≤, pow_pos, pow_mono, pow-add}
use native.Mathlib.Nat.{mul-mul-mul_comm}
use native.Mathlib.Decide.{dec_le}
use lib.Ieee.Nearest.{closest}
use Rattle.floats.specs.Root.{isqrt, sticky, digits_of}
use Rattle.floats.proofs.Square.{sq-le, sq-lt, next-sq}
use Rattle.floats.proofs.Middle.{Whole, isqrt-whole, middle-sq, near, under-upper, over-lower}

-- ---- what a format of 53 digits has next to k * 2 ^ e
split : (n d e : ℕ) → e ≤ d → n * 2 ^ d ≡ n * 2 ^ (d - e) * 2 ^ e
split n d e h =
    let s : d ≡ d - e + e = omega arith in
    ap (λ (z : ℕ). n * 2 ^ z) s ∙ ap (λ (z : ℕ). n * z) (pow-add 2 (d - e) e) ∙ sym (mul_assoc n (2 ^ (d - e)) (2 ^ e))

small : (n d e : ℕ) → n < 2 ^ 53 → d < e → n * 2 ^ d < 2 ^ 52 * 2 ^ e
small n d e h l =
    let s : 53 + d ≤ 52 + e = omega arith in
    lt_of_lt_of_le (mul-lt-mul_of_pos_right h (pow_pos d)) (le_trans (le_of_eq (sym (pow-add 2 53 d))) (le_trans (pow_mono s) (le_of_eq (pow-add 2 52 e))))

module _ (n d k e : ℕ) (h : n < 2 ^ 53) (lo : 2 ^ 52 ≤ k) where
  pub gap_up : k * 2 ^ e < n * 2 ^ d → (k + 1) * 2 ^ e ≤ n * 2 ^ d
  gap_up l = go (dec_le e d)
    where
      go : Dec (e ≤ d) → (k + 1) * 2 ^ e ≤ n * 2 ^ d
      go (yes g) =
          let t : k < n * 2 ^ (d - e) = lt_of_mul-lt-mul_right (2 ^ e) (subst (λ (z : ℕ). k * 2 ^ e < z) (split n d e g) l) in
          let u : k + 1 ≤ n * 2 ^ (d - e) = omega arith in
          le_trans (mul-le-mul_right (2 ^ e) u) (le_of_eq (sym (split n d e g)))
      go (no g) = absurd (lt_irrefl (k * 2 ^ e) (lt_of_lt_of_le (lt_of_lt_of_le l (le_of_lt (small n d e h (lt_of_not-le g)))) (mul-le-mul_right (2 ^ e) lo)))

  pub gap_down : 2 ^ 52 < k → n * 2 ^ d < k * 2 ^ e → n * 2 ^ d ≤ (k - 1) * 2 ^ e
  gap_down b l = go (dec_le e d)
    where
      go : Dec (e ≤ d) → n * 2 ^ d ≤ (k - 1) * 2 ^ e
      go (yes g) =
          let t : n * 2 ^ (d - e) < k = lt_of_mul-lt-mul_right (2 ^ e) (subst (λ (z : ℕ). z < k * 2 ^ e) (split n d e g) l) in
          let u : n * 2 ^ (d - e) ≤ k - 1 = omega arith in
          le_trans (le_of_eq (split n d e g)) (mul-le-mul_right (2 ^ e) u)
      go (no g) =
          let u : 2 ^ 52 ≤ k - 1 = omega arith in
          le_trans (le_of_lt (small n d e h (lt_of_not-le g))) (mul-le-mul_right (2 ^ e) u)

-- ---- the digits of the root of n, for an n from 2 ^ 108 and below 2 ^ 110
module _ (m : ℕ) (lo : 2 ^ 52 ≤ m) (hi : m < 2 ^ 54) where
  unfoldable pub n : ℕ
  n = m * 4 ^ 28

  unfoldable pub q : ℕ
  q = isqrt 55 n

  whole : Whole n q
  unfolding n q
  whole = isqrt-whole 55 (m * 4 ^ 28) (lt_of_lt_of_le (mul-lt-mul_of_pos_right hi (lit< tt)) (lit≤ tt))

  q-from : 2 ^ 54 ≤ q
  unfolding n
  q-from = le_of_suc-le-suc (lt_of_not-le (λ (h : suc q ≤ 2 ^ 54).
      lt_irrefl (2 ^ 108) (lt_of_le_of_lt (mul-le-mul_right (4 ^ 28) lo) (lt_of_lt_of_le whole.high (sq-le (q + 1) (2 ^ 54) (le_trans (le_of_eq (add-one q)) h))))))

  q-under : q < 2 ^ 55
  unfolding n
  q-under = lt_of_not-le (λ (h : 2 ^ 55 ≤ q). lt_irrefl (2 ^ 110) (lt_of_le_of_lt (le_trans (sq-le (2 ^ 55) q h) whole.low) (mul-lt-mul_of_pos_right hi (lit< tt))))

  unfoldable pub s : ℕ
  s = sticky n q

  s-from : 2 ^ 55 ≤ s
  unfolding s
  s-from = le_trans (mul-le-mul_left 2 q-from) (le-add_right (2 * q) _)

  s-under : s < 2 ^ 56
  unfolding s
  s-under = grind (arith, q-under)

  unfoldable pub k : ℕ
  k = closest s 8

  pub k-is : k ≡ closest (digits_of m) 8
  unfolding k s q n digits_of
  k-is = refl

  pub k-from : 2 ^ 52 ≤ k
  unfolding k
  k-from = omega (arith, (near s).1, s-from)

  pub k-to : k ≤ 2 ^ 53
  unfolding k
  k-to = omega (arith, (near s).0, s-under)

  eights : n % 8 ≡ 0
  unfolding n
  eights = omega arith

  upper : n < (4 * k + 2) * (4 * k + 2)
  unfolding k s
  upper = under-upper n q (closest (sticky n q) 8) whole eights refl

  lower : (j : ℕ) → k ≡ j + 1 → (4 * j + 2) * (4 * j + 2) < n
  unfolding k s
  lower = over-lower n q (closest (sticky n q) 8) whole eights refl

  -- at the least k the root is no less than what is kept of it
  least : k ≡ 2 ^ 52 → 4 * k * (4 * k) ≤ n
  least e = rw e (le_trans (sq-le (2 ^ 54) q q-from) whole.low)

  -- ---- and no other number is the nearest to the root of n / 16
  module _ (r : ℕ) where
    no_more : r * r < m * 2 ^ 52 + r → r ≤ k
    unfolding n
    no_more h = le_of_suc-le-suc (lt_of_not-le (λ (l : suc k ≤ r).
        let j : r ≡ r - 1 + 1 = omega arith in
        let s : r * r ≡ (r - 1) * (r - 1) + 2 * (r - 1) + 1 = ap (λ (z : ℕ). z * z) j ∙ next-sq (r - 1) in
        let to : k ≤ r - 1 = omega arith in
        absurd (omega (arith, h, s, upper, middle-sq k, sq-le k (r - 1) to))))

    no_less : m * 2 ^ 52 ≤ r * r + r → k ≤ r
    unfolding n
    no_less h = le_of_suc-le-suc (lt_of_not-le (λ (l : suc r ≤ k).
        let j : k ≡ k - 1 + 1 = omega arith in
        let to : r ≤ k - 1 = omega arith in
        absurd (omega (arith, h, lower (k - 1) j, middle-sq (k - 1), sq-le r (k - 1) to))))

    pub only-nearest : r * r < m * 2 ^ 52 + r → m * 2 ^ 52 ≤ r * r + r → (r ≡ closest (digits_of m) 8) × (r ≤ 2 ^ 53)
    only-nearest below above =
        let e : r ≡ k = le_antisymm (no_more below) (no_less above) in
        (e ∙ k-is, le_trans (le_of_eq e) k-to)

  -- ---- with the unit w: the root is that of n * w * w, r is 2 * k * w, and y any value with at most 53 digits
  module _ (t : ℕ) (a d : ℕ) (short : a < 2 ^ 53) where
    abbrev w : ℕ
    w = 2 ^ t

    abbrev r : ℕ
    r = k * 2 ^ suc t

    abbrev y : ℕ
    y = a * 2 ^ d

    r-is : (j : ℕ) → j * 2 ^ suc t ≡ j * w * 2
    r-is j = ap (λ (z : ℕ). j * z) (pow-suc 2 t) ∙ sym (mul_assoc j w 2)

    middle : (j : ℕ) → (4 * j + 2) * w ≡ 4 * (j * w) + 2 * w
    middle j = add-mul (4 * j) 2 w ∙ ap (λ (z : ℕ). z + 2 * w) (mul_assoc 4 j w)

    one_more : (j : ℕ) → (j + 1) * w ≡ j * w + w
    one_more j = add-mul j 1 w ∙ ap (λ (z : ℕ). j * w + z) (one-mul w)

    squares : (x : ℕ) → x * x * (w * w) ≡ x * w * (x * w)
    squares x = mul-mul-mul_comm x x w w

    w-pos : 0 < w * w
    w-pos = mul-pos (pow_pos t) (pow_pos t)

    pub above : r < y → n * (w * w) < (r + y) * (r + y)
    above l =
        let g : (k + 1) * 2 ^ suc t ≤ y = gap_up a d k (suc t) short k-from l in
        let m : (4 * k + 2) * w ≤ r + y = omega (arith, g, r-is k, r-is (k + 1), one_more k, middle k) in
        lt_of_lt_of_le (mul-lt-mul_of_pos_right upper w-pos) (le_trans (le_of_eq (squares (4 * k + 2))) (sq-le ((4 * k + 2) * w) (r + y) m))

    pub below : y < r → (r + y) * (r + y) < n * (w * w)
    below l = go (eq-or-lt_of_le k-from)
      where
        go : (2 ^ 52 ≡ k) ⊎ (2 ^ 52 < k) → (r + y) * (r + y) < n * (w * w)
        go (inl e) =
            let m : r + y < 4 * k * w = omega (arith, l, r-is k, mul_assoc 4 k w) in
            lt_of_lt_of_le (sq-lt (r + y) (4 * k * w) m) (le_trans (le_of_eq (sym (squares (4 * k)))) (mul-le-mul_right (w * w) (least (sym e))))
        go (inr b) =
            let g : y ≤ (k - 1) * 2 ^ suc t = gap_down a d k (suc t) short k-from b l in
            let j : k ≡ k - 1 + 1 = omega arith in
            let x : k * w ≡ (k - 1) * w + w = ap (λ (z : ℕ). z * w) j ∙ one_more (k - 1) in
            let m : r + y ≤ (4 * (k - 1) + 2) * w = omega (arith, g, r-is k, r-is (k - 1), x, middle (k - 1)) in
            lt_of_le_of_lt (sq-le (r + y) ((4 * (k - 1) + 2) * w) m) (lt_of_le_of_lt (le_of_eq (sym (squares (4 * (k - 1) + 2)))) (mul-lt-mul_of_pos_right (lower (k - 1) j) w-pos))
