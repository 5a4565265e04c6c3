-- Eight worked cases, and that a board of no records has no bytes.
use Rattle.std.proofs.Common.{ℕ, ◌≡◌, refl, List, []}
use Rattle.floats.proofs.Worked.{roots-worked}
use Rattle.text.proofs.Readback.{height-texts}
use Rattle.geometry.proofs.Positions.{position-4}
use Rattle.arithmetic.proofs.Positions.{position-1, position-2}
use Rattle.decision.proofs.Positions.{position-3, ends-only}
use Rattle.lists.specs.Lists.{sort}
use Rattle.board_fixes.specs.Fixes.{enter_all, fixes_of}
use Rattle.board_transmissions.specs.Transmissions.{transmissions_of}
use Rattle.board_transmissions.proofs.Positions.{position-6}
use Rattle.board_picture.specs.Picture.{picture}
use Rattle.fix_lines.specs.Text.{text_from}
use Rattle.board.specs.Board.{board_of}
use Rattle.board.specs.Positions.{Positions}

no_bytes : (ss : List (List ℕ)) → board_of ss [] ≡ []
unfolding board_of picture fixes_of enter_all transmissions_of sort text_from
no_bytes ss = refl

pub positions : Positions
positions = record {
  p1 = position-1;
  p2 = position-2;
  p3 = position-3;
  p3_only = ends-only;
  p4 = position-4;
  p5 = height-texts;
  p6 = position-6;
  p7 = roots-worked.of_4;
  p8 = no_bytes;
}
