-- What the code's comparisons of floats say in the definitions' words.
use mathlib.Core.Path.{◌≡◌, refl}
use mathlib.Core.Bool.{Bool, true, false, not, ◌||◌, ◌&&◌}
use Prim.Native.Nat.{ℕ, ◌+◌, ◌*◌}
use native.Mathlib.Omega.{arith}
use lib.Dec.{ltb, eqb}
use lib.Ieee.{Float, nan, inf, fin, binary64, up, down, of_bits, of_int, lt, le, eq, is_nan}
use Rattle.geometry.specs.Numbers.{not_above}

-- a ≤ b, in two tests, is that b is not below a
at_most : (a b : ℕ) (t : Bool) → ltb a b || eqb a b && (true || t) ≡ not (ltb b a)
at_most a b t = grind arith

-- -a ≤ -b
at_least : (a b : ℕ) (t : Bool) → ltb b a || eqb a b && (true || t) ≡ not (ltb a b)
at_least a b t = grind arith

-- -a ≤ b
below-zero : (a b : ℕ) → ltb 0 (a + b) || eqb a b && (false || eqb a 0) ≡ true
below-zero a b = grind arith

-- a ≤ -b
above_zero : (a b : ℕ) → eqb a b && (false || eqb a 0) ≡ not (ltb 0 (b + a))
above_zero a b = grind arith

-- where neither is a NaN, one is at most the other exactly where the other is not below it
pub at-most-not-above : (x y : Float) → is_nan x ≡ false → is_nan y ≡ false → le x y ≡ not (lt y x)
unfolding is_nan le lt eq
at-most-not-above nan y e f = cc
at-most-not-above (inf s) nan e f = cc
at-most-not-above (fin s m d) nan e f = cc
at-most-not-above (inf true) (inf true) e f = refl
at-most-not-above (inf true) (inf false) e f = refl
at-most-not-above (inf false) (inf true) e f = refl
at-most-not-above (inf false) (inf false) e f = refl
at-most-not-above (inf true) (fin t n d) e f = refl
at-most-not-above (inf false) (fin t n d) e f = refl
at-most-not-above (fin s m d) (inf true) e f = refl
at-most-not-above (fin s m d) (inf false) e f = refl
at-most-not-above (fin false m d) (fin false n k) e f = at_most (m * up d * down k) (n * up k * down d) (eqb (m * up d * down k) 0)
at-most-not-above (fin false m d) (fin true n k) e f = above_zero (m * up d * down k) (n * up k * down d)
at-most-not-above (fin true m d) (fin false n k) e f = below-zero (m * up d * down k) (n * up k * down d)
at-most-not-above (fin true m d) (fin true n k) e f = at_least (m * up d * down k) (n * up k * down d) (eqb (m * up d * down k) 0)

-- x is a NaN or at most zero exactly where it is not above zero
pub not-above : (x : Float) → not_above x ≡ not (lt (of_bits binary64 0) x)
unfolding is_nan lt of_int of_bits
not-above nan = refl
not-above (inf s) = at-most-not-above (inf s) (of_bits binary64 0) refl refl
not-above (fin s m e) = at-most-not-above (fin s m e) (of_bits binary64 0) refl refl
