use Rattle.std.proofs.Common.{◌≡◌, ◌≤◌, length}
use Rattle.decision_rule.specs.Listed.{relations}
use Rattle.decision_rule.specs.Rows.{is_ranked}
use Rattle.decision.proofs.Ranking.{sorted_from}
use Rattle.decision.proofs.listing.list_ranked.Given as goal

abbrev pub invariant-loop-i : goal.invariant-loop-i
invariant-loop-i g l =
    let items = l.settled.compared.listed.items.now in
    record {
      most : l.i ≤ length items;
      ranked : l.list.items ≡ sorted_from (relations items).ahead (is_ranked items) (length items) l.i;
    }
