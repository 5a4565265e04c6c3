-- How long a part of a list is.
use mathlib.Core.Path.{◌≡◌}
use mathlib.Core.List.{List}
use Prim.Native.Nat.{ℕ, ◌+◌, ◌-◌, ◌≤◌}
use native.Mathlib.Omega.{arith}
use lib.ListN.{length, take, drop, length-drop}
use lib.Seq.{length-take-le}

-- a part of w elements from a on
pub width : (w a : ℕ) → a + w - a ≡ w
width w a = omega arith

-- and it is as long as that
pub taken : (w a : ℕ) (t : List ℕ) → a + w ≤ length t → length (take w (drop a t)) ≡ w
taken w a t h = length-take-le w (drop a t) (rw length-drop (omega arith))
