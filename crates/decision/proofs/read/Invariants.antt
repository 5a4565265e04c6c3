use Rattle.std.proofs.Common.{◌≡◌, length}
use Rattle.decision.specs.Each.{Each}
use Rattle.decision.proofs.read.Given as goal

abbrev pub invariant-loop-i : goal.invariant-loop-i
invariant-loop-i g l = record {
  long : length l.items ≡ length l.initial.items;
  held : Each (goal.F-post g l.fn.item) l.items l.i;
}
