use Rattle.std.proofs.Common.{◌≡◌, ◌≤◌, length}
use Rattle.std.specs.List.{filter}
use Rattle.lists.specs.Ordered.{up_to}
use Rattle.decision_rule.specs.Rows.{is_dominated}
use Rattle.decision.proofs.listing.list_dominated.Given as goal

abbrev pub invariant-loop-i : goal.invariant-loop-i
invariant-loop-i g l = record {
  most : l.i ≤ length l.settled.compared.listed.items.now;
  dominated : l.list.items ≡ filter (is_dominated l.settled.compared.listed.items.now) (up_to l.i);
}
