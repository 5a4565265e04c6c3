use mathlib.Core.Path.{ap, ◌∙◌}
use native.Mathlib.Omega.{arith}
use lib.ListN.{length}
use Rattle.track_normalize.specs.Normal.{gather}
use Rattle.track_normalize.proofs.Distinct.{gather-few}
use Rattle.track_normalize.proofs.Gathered.{next-all, none-yet}
use Rattle.track_normalize.proofs.gathering.gather_all.Goals as goal

pub loop-fix-init : goal.loop-fix-init
loop-fix-init c = (none-yet c.args.gathered.now.items, omega arith)

pub loop-fix-preserved : goal.loop-fix-preserved
loop-fix-preserved c =
    let k = c.loop-fix.invariant in
    let f = c.fix-item.result in (
      c.gather.ensures ∙ ap (λ l. gather l f) k.0 ∙ next-all c.args.gathered.now.items c.args.fixes.now c.loop-fix.fix-index f c.fix-item.result c.loop-fix-test.true c.fix-item.is,
      omega (arith, ap length c.gather.ensures, gather-few f c.loop-fix.gathered.items, k.1),
    )
