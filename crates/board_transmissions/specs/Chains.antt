-- What a chain of links leads to (docs/REFERENCE.md, 'Register and board', step 2).
use Rattle.std.specs.Prelude.{◌≡◌, true}
use mathlib.Core.List.{List, Memᴰ}
use Rattle.fixes.specs.Fix.{Fix}
use Rattle.board_transmissions.specs.Transmissions.{linked}

-- a chain of links leads from a to a fix, through fixes of fs
pub data Chain (fs : List Fix) (a : Fix) : Fix → Type 0 where
  here : Memᴰ a fs → Chain fs a a
  more : {f g : Fix} → Chain fs a f → Memᴰ g fs → linked g f ≡ true → Chain fs a g
