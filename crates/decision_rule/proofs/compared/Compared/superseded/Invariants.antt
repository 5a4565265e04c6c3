use Rattle.std.proofs.Common.{◌≡◌, length, ◌&&◌}
use Rattle.std.specs.List.{list_any}
use Rattle.lists.specs.Ordered.{up_to}
use Rattle.decision_rule.specs.Places.{set_of}
use Rattle.decision_rule.specs.Listed.{relations}
use Rattle.decision_rule.specs.Rows as R
use Rattle.decision_rule.proofs.compared.Compared.superseded.Given as goal

abbrev pub invariant-loop-i : goal.invariant-loop-i
invariant-loop-i l =
    let xs = l.self.listed.items.now in l.some.word ≡ set_of (λ j. list_any (λ g. R.supersedes xs g && (relations xs).disagrees g j) (up_to l.i)) (length xs)
