use Rattle.std.proofs.Common.{◌≡◌, length, not}
use Rattle.decision_rule.specs.Listed.{relations}
use Rattle.decision_rule.specs.Rows as R
use Rattle.decision_rule.proofs.Sets.{gathered}
use Rattle.decision_rule.proofs.compared.Compared.covered.Given as goal

abbrev pub invariant-loop-i : goal.invariant-loop-i
invariant-loop-i l =
    let xs = l.self.listed.items.now in l.some.word ≡ gathered (λ g. not (R.is_refused xs g)) (λ g j. (relations xs).within j g) (length xs) l.i
