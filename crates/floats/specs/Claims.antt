-- What is claimed of the root: it is the one that IEEE 754 asks for, and no other. The theorem is `root-is-ieee754` in proofs/Ieee754.
use Rattle.std.specs.Prelude.{◌≡◌, T, Float}
use Rattle.std.specs.Float.{binary64}
use Rattle.std.specs.Float.Ieee.{fits}
use Rattle.floats.specs.Root.{root}
use Rattle.floats.specs.SquareRoot.{SquareRoot}

pub record RootIsIeee754 : Type 0 where
  -- of every binary64 value
  pub asked : (x : Float) → T (fits binary64 x) → SquareRoot x (root x)
  -- and no other result is
  pub only : (x r : Float) → T (fits binary64 x) → SquareRoot x r → r ≡ root x
