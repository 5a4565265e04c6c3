use Rattle.std.proofs.Common.{sym, ap, ◌∙◌}
use Rattle.text.specs.Texts.{append}
use Rattle.text.proofs.Appending.{append-nil, append_more}
use Rattle.text.proofs.Text.push_all.Goals as goal

pub loop-value-init : goal.loop-value-init
loop-value-init g c = sym (append-nil c.args.self.now)

pub loop-value-preserved : goal.loop-value-preserved
loop-value-preserved g c =
    append_more g.T.Append.text c.args.values.now c.loop-value.value-index c.value-item.result _ _ _ c.loop-value-test.true c.loop-value.invariant
    (c.append_to.ensures ∙ ap (λ (x : g.row.T.Denot). append c.loop-value.self (g.T.Append.text x)) c.value-item.is)
