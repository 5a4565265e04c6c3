use Rattle.std.proofs.Common.{◌≡◌, ℕ, ◌+◌, ◌≤◌, Bool, length, drop}
use Rattle.std.specs.List.{prefix_len}
use Rattle.decision_rule.specs.Listed.{relations}
use Rattle.decision.proofs.listing.place_of.Given as goal

-- k items are known to rank before item i
abbrev pub invariant-loop-k : goal.invariant-loop-k
invariant-loop-k l =
    let before : ℕ → Bool = λ j. (relations l.settled.compared.listed.items.now).ahead j l.i in
    record {
      most : l.k ≤ length l.list;
      passed : l.k + prefix_len before (drop l.k l.list) ≡ prefix_len before l.list;
    }
