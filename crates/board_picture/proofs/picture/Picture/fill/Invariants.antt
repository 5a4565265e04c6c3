use Rattle.std.proofs.Common.{◌≤◌, ◌≡◌, length}
use Rattle.board_picture.proofs.Filling.{shown_from}
use Rattle.board_picture.proofs.picture.Picture.fill.Given as goal

abbrev pub invariant-loop-k : goal.invariant-loop-k
invariant-loop-k l = record {
  most : l.k ≤ length l.transmissions.parts;
  shows : l.self ≡ record { fixes = l.transmissions.fixes; parts = shown_from l.transmissions.parts l.k };
}
