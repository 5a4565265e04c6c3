use Rattle.std.proofs.Common.{◌≡◌, ◌≤◌, ◌-◌}
use Rattle.lists.specs.Ordered.{count_from}
use Rattle.track_arrange.proofs.leads.latest_places.Given as goal

abbrev pub invariant-loop-i : goal.invariant-loop-i
invariant-loop-i l = record {
  most : l.i ≤ l.n - l.first;
  places : l.places.items ≡ count_from l.first l.i;
}
