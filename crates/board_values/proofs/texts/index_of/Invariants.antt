use Rattle.std.proofs.Common.{◌≡◌, ◌+◌}
use Rattle.board_values.proofs.Walks.{index_from}
use Rattle.board_values.proofs.texts.index_of.Given as goal

abbrev pub invariant-loop-line : goal.invariant-loop-line
invariant-loop-line l = record {
  here : l.index ≡ l.line-index;
  whole : l.index + index_from l.picture.fixes l.lines l.identity l.line-index ≡ index_from l.picture.fixes l.lines l.identity 0;
}
