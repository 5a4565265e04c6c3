use mathlib.Core.Path.{ap, ◌∙◌}
use native.Mathlib.Omega.{arith}
use lib.ListN.{length}
use Rattle.track_transmission.specs.Held.{fix_of}
use Rattle.track_normalize.specs.Normal.{gather}
use Rattle.track_normalize.proofs.Distinct.{gather-few}
use Rattle.track_normalize.proofs.Gathered.{next-refused, none-yet}
use Rattle.track_normalize.proofs.gathering.gather_refused.Goals as goal

pub loop-refusal-init : goal.loop-refusal-init
loop-refusal-init c = (none-yet c.args.gathered.now.items, omega arith)

pub loop-refusal-preserved : goal.loop-refusal-preserved
loop-refusal-preserved c =
    let k = c.loop-refusal.invariant in
    let f = c.refusal.inside.fix in
    let is = ap fix_of c.refusal.view_is ∙ ap fix_of c.refusal-item.is in (
      c.gather.ensures ∙ ap (λ l. gather l f) k.0 ∙ next-refused c.args.gathered.now.items c.args.refused.now c.loop-refusal.refusal-index f c.refusal-item.result c.loop-refusal-test.true is,
      omega (arith, ap length c.gather.ensures, gather-few f c.loop-refusal.gathered.items, k.1),
    )
