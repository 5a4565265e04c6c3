use Rattle.std.proofs.Common.{◌≡◌, ◌≤◌, drop}
use Rattle.text.specs.Texts.{append}
use Rattle.board_map.specs.Text.{points_text}
use Rattle.board_map.specs.Written.{points_in, further_text}
use Rattle.board_map.proofs.texts.push_points.Given as goal

-- what is written and what is left are the whole
abbrev pub invariant-loop-k : goal.invariant-loop-k
invariant-loop-k l = record {
  from : l.start ≤ l.k;
  whole : append l.out (further_text l.any (points_in (drop l.k l.picture.parts))) ≡ append l.initial.out (points_text (points_in (drop l.start l.picture.parts)));
}
