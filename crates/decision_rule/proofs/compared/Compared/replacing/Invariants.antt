use Rattle.std.proofs.Common.{◌≡◌, ◌/◌, ◌^◌}
use Rattle.decision_rule.specs.Rows as R
use Rattle.decision_rule.specs.Places.{set_of}
use Rattle.decision_rule.proofs.compared.Compared.replacing.Given as goal

abbrev pub invariant-loop-j : goal.invariant-loop-j
invariant-loop-j l = record {
  left : l.left.word ≡ l.fn.superseding.word / 2 ^ l.j;
  some : l.some.word ≡ set_of (R.replaces l.self.listed.items.now l.i) l.j;
}
