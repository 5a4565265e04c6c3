use Rattle.std.proofs.Common.{◌≡◌, ◌≤◌, ◌+◌, ◌-◌, ◌*◌, drop}
use Rattle.text.specs.Texts.{append}
use Rattle.board_values.specs.Drawn.{parts_bytes}
use Rattle.board_values.proofs.texts.push_latest.Given as goal

-- what is written and what is left are the whole
abbrev pub invariant-loop-k : goal.invariant-loop-k
invariant-loop-k l = record {
  from : l.start ≤ l.k;
  small : l.before + 768 * l.start ≤ 768 * l.k;
  whole : append l.out (parts_bytes l.register.records (l.k - l.start + 1) l.before (drop l.k l.picture.parts)) ≡ append l.initial.out (parts_bytes l.register.records 1 0 (drop l.start l.picture.parts));
}
