use Rattle.std.proofs.Common.{◌≡◌, ◌≤◌}
use Rattle.lists.specs.Ordered.{up_to}
use Rattle.decision.proofs.decide_alone.Given as goal

abbrev pub invariant-loop-i : goal.invariant-loop-i
invariant-loop-i g l = record {
  most : l.i ≤ l.n;
  ranked : l.ranked.items ≡ up_to l.i;
}
