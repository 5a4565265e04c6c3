use Rattle.std.proofs.Common.{◌≡◌, ◌≤◌, ◌+◌, ◌-◌, drop}
use Rattle.text.specs.Texts.{append}
use Rattle.board.specs.Drawn.{parts_text}
use Rattle.board.proofs.texts.push_latest.Given as goal

-- what is written and what is left are the whole
abbrev pub invariant-loop-k : goal.invariant-loop-k
invariant-loop-k l = record {
  from : l.start ≤ l.k;
  whole : append l.out (parts_text l.desk (l.k - l.start + 1) (drop l.k l.picture.parts)) ≡ append l.initial.out (parts_text l.desk 1 (drop l.start l.picture.parts));
}
