use Rattle.decision_rule.specs.Factors.{Factors}
use Rattle.decision_rule.specs.Rows.{Rows}
use Rattle.decision_rule.proofs.compared.fill.Given as goal

abbrev pub invariant-loop-i : goal.invariant-loop-i
invariant-loop-i l = record { rows : Rows l.listed.items.now l.i l.rows; known : Factors l.listed.items.now l.factors }
