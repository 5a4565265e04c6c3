use mathlib.Core.Path.{sym, ap₂, ◌∙◌}
use native.Mathlib.Omega.{arith}
use Rattle.fixes.specs.Items.{no_fix}
use Rattle.track_transmission.specs.Held.{held_in, is_of}
use Rattle.track_merge.proofs.Counting.{place-among, none-among}
use Rattle.track_merge.proofs.first_identified.Goals as goal

pub returns-then-is_of : goal.returns-then-is_of
returns-then-is_of c =
    let f = c.args.fix.now in
    let here = ap₂ is_of (sym c.identified-fix.ensures) (sym c.held_fix.ensures) ∙ sym c.is_of.ensures ∙ c.if-is_of.true in
    sym (place-among (is_of f) (held_in c.args.block.now) c.args.n c.loop-i.i no_fix c.loop-i-test.true c.requires here c.loop-i.invariant)

pub returns : goal.returns
returns c =
    sym (none-among (is_of c.args.fix.now) (held_in c.args.block.now) c.args.n no_fix c.requires (λ k h. c.loop-i.invariant k (omega (arith, h, c.loop-i-test.false))))
