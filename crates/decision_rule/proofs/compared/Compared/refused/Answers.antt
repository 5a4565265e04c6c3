use Rattle.std.proofs.Common.{sym, ◌∙◌}
use Rattle.decision_rule.specs.Rows as R
use Rattle.decision_rule.proofs.Sets.{set-none, hit, miss}
use Rattle.decision_rule.proofs.compared.Compared.refused.Goals as goal

pub loop-i-init : goal.loop-i-init
loop-i-init c = c.none-some.ensures ∙ sym (set-none (R.is_refused c.args.self.now.listed.items.now))

pub loop-i-preserved-then-not-is_refused : goal.loop-i-preserved-then-not-is_refused
loop-i-preserved-then-not-is_refused c = miss (R.is_refused c.args.self.now.listed.items.now) c.loop-i.i c.loop-i.invariant c.is_refused.ensures c.if-not-is_refused.true

pub loop-i-preserved : goal.loop-i-preserved
loop-i-preserved c = c.insert.ensures ∙ hit (R.is_refused c.args.self.now.listed.items.now) c.loop-i.i c.loop-i.invariant c.is_refused.ensures c.if-not-is_refused.false
