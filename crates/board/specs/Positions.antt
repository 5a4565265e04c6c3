-- Eight worked cases as one conjunction, over the definitions that the contracts cite. The theorem is `positions` in proofs/Positions.
-- Source: docs/REFERENCE.md, 'Register and board' and 'Agreement and decision'.
use Rattle.std.specs.Prelude.{◌≡◌, List, [], ℕ, pos}
use Rattle.std.specs.Float.{binary64}
use Rattle.std.specs.Float.Ieee.{of_int}
use Rattle.floats.specs.Root.{root}
use Rattle.text.specs.Claims.{HeightTexts}
use Rattle.geometry.specs.Claims.{Position4}
use Rattle.arithmetic.specs.Claims.{Position1, Position2}
use Rattle.decision.specs.Claims.{Position3, OnlyTheEndsDisagree}
use Rattle.board_transmissions.specs.Claims.{Position6}
use Rattle.board.specs.Board.{board_of}

pub record Positions : Type 0 where
  -- a chi-square of 16.266 with both heights agrees; the next f64 does not
  pub p1 : Position1
  -- zero covariance disagrees at its own position, and at every other
  pub p2 : Position2
  -- S in M in L, equal inputs, only S and L disagreeing: M ranked, S dominated, L refused
  pub p3 : Position3
  pub p3_only : OnlyTheEndsDisagree
  -- 450,000,000 gives q 1, 449,999,999 q 0, -450,000,001 q -1
  pub p4 : Position4
  -- 499 and 500 mm are 0, 1500 is 2, 2500 is 2, -1500 is -2: an exact half metre goes to the even metre
  pub p5 : HeightTexts
  -- tags {1}, {2}, {1,2} make one transmission
  pub p6 : Position6
  -- the root of 4 is 2
  pub p7 : root (of_int binary64 (pos 4)) ≡ of_int binary64 (pos 2)
  -- no records, no bytes
  pub p8 : (ss : List (List ℕ)) → board_of ss [] ≡ []
