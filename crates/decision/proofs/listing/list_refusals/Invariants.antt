use Rattle.std.proofs.Common.{◌≡◌, ◌≤◌, length}
use Rattle.decision_rule.specs.Listed.{relations}
use Rattle.decision.proofs.Findings.{refused_to}
use Rattle.decision.proofs.listing.list_refusals.Given as goal

abbrev pub invariant-loop-i : goal.invariant-loop-i
invariant-loop-i g l =
    let items = l.settled.compared.listed.items.now in
    record {
      few : length l.list.items ≤ l.i;
      most : l.i ≤ length items;
      refused : l.list.items ≡ refused_to (relations items) (length items) l.i;
    }
