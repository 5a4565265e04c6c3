use Rattle.std.proofs.Common.{sym, ◌∙◌}
use Rattle.decision_rule.specs.Rows as R
use Rattle.decision_rule.proofs.Sets.{set-none, hit, miss}
use Rattle.decision_rule.proofs.compared.Compared.superseding.Goals as goal

pub loop-i-init : goal.loop-i-init
loop-i-init c = c.none-some.ensures ∙ sym (set-none (R.supersedes c.args.self.now.listed.items.now))

pub loop-i-preserved-then-not-supersedes : goal.loop-i-preserved-then-not-supersedes
loop-i-preserved-then-not-supersedes c = miss (R.supersedes c.args.self.now.listed.items.now) c.loop-i.i c.loop-i.invariant c.supersedes.ensures c.if-not-supersedes.true

pub loop-i-preserved : goal.loop-i-preserved
loop-i-preserved c = c.insert.ensures ∙ hit (R.supersedes c.args.self.now.listed.items.now) c.loop-i.i c.loop-i.invariant c.supersedes.ensures c.if-not-supersedes.false
