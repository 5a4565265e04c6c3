use Rattle.std.proofs.Common.{◌≡◌, length, take}
use Rattle.monthly_numbers.specs.Kept.{all_lines, Told}
use Rattle.monthly_numbers.proofs.Telling.{until}
use Rattle.monthly_numbers.proofs.endings.tell.Given as goal

abbrev pub invariant-loop-k : goal.invariant-loop-k
invariant-loop-k l = record {
  size : length l.table ≡ 96;
  told : Told l.picture.fixes (all_lines l.picture.parts) l.table (all_lines (take l.k l.picture.parts));
}

abbrev pub invariant-loop-line : goal.invariant-loop-line
invariant-loop-line l = record {
  size : length l.table ≡ 96;
  told : Told l.picture.fixes (all_lines l.picture.parts) l.table (until l.picture.fixes l.picture.parts l.k l.line-items l.line-index);
}
