use mathlib.Core.Path.{sym, ap, ◌∙◌}
use mathlib.Core.List.{map}
use native.Mathlib.Omega.{arith}
use lib.ListN.{length}
use lib.Seq.{take_all}
use Prim.Native.Nat.{◌≤◌}
use Rattle.fixes.specs.Items.{fix_at}
use Rattle.track_transmission.specs.Layout.{max_standing}
use Rattle.track_normalize.proofs.deciding.list_standing.Goals as goal

pub returns : goal.returns
returns c =
    let k = c.loop-i.invariant in
    let all = k.listed ∙ ap (map (fix_at c.args.fixes.now)) (take_all c.loop-i.i-index c.args.ranked.now (omega arith)) in
    let f : length (map (fix_at c.args.fixes.now) c.args.ranked.now) ≤ max_standing = omega (arith, k.few, ap length all) in
    all ∙ sym (take_all max_standing (map (fix_at c.args.fixes.now) c.args.ranked.now) f)
