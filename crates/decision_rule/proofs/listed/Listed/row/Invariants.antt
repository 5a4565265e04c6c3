use Rattle.std.proofs.Common.{◌≡◌}
use Rattle.decision_rule.specs.Factors.{Factors}
use Rattle.decision_rule.specs.Rows as R
use Rattle.decision_rule.proofs.listed.Listed.row.Given as goal

abbrev pub invariant-loop-j : goal.invariant-loop-j
invariant-loop-j l = record { row : l.row ≡ R.row l.self.items.now l.i l.j; known : Factors l.self.items.now l.factors }
