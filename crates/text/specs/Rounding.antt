-- The rule by which heights are rounded: to the nearest whole metre, of two equally near the even one (docs/REFERENCE.md, 'Text'). What computes it is `metres` of
-- Heights, and `MetresAreNearest` of Claims says that it does.
use Rattle.std.specs.Prelude.{ℕ, ◌%◌, ◌≤◌, ◌≡◌, ℤ, pos, nat_abs, ◌-ℤ◌, ◌*ℤ◌}

-- how many millimetres lie between a height of h millimetres and one of m metres
abbrev pub distance : ℤ → ℤ → ℕ
distance h m = nat_abs (h -ℤ pos 1000 *ℤ m)

abbrev pub Even : ℤ → Type 0
Even m = nat_abs m % 2 ≡ 0

-- the rounding rule: m is the nearest whole metre to a height of h millimetres; of two equally near the even one
pub record NearestMetre (h m : ℤ) : Type 0 where
  pub nearest : (k : ℤ) → distance h m ≤ distance h k
  pub even : (k : ℤ) → (k ≡ m → ⊥) → distance h k ≡ distance h m → Even m
