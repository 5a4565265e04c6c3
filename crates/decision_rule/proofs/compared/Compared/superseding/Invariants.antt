use Rattle.std.proofs.Common.{◌≡◌}
use Rattle.decision_rule.specs.Places.{set_of}
use Rattle.decision_rule.specs.Rows as R
use Rattle.decision_rule.proofs.compared.Compared.superseding.Given as goal

abbrev pub invariant-loop-i : goal.invariant-loop-i
invariant-loop-i l = l.some.word ≡ set_of (R.supersedes l.self.listed.items.now) l.i
