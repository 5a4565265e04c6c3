use mathlib.Core.Bool.{Bool}
use mathlib.Core.Path.{sym, ap, ◌∙◌}
use native.Mathlib.Omega.{arith}
use Rattle.record.specs.Relations.{tied}
use Rattle.fixes.specs.Fix.{Fix}
use Rattle.fixes.specs.Items.{no_fix}
use Rattle.track_transmission.specs.Held.{held_in}
use Rattle.track_transmission.proofs.Searching.{any_here, any-on, any-over}
use Rattle.track_transmission.proofs.block.Block.ties.Goals as goal

pub returns-then-is_tied_to : goal.returns-then-is_tied_to
returns-then-is_tied_to c =
    let test : Fix → Bool = λ f. tied f.record_bytes c.args.r.bytes.now in
    let asked = c.is_tied_to.ensures ∙ ap test (c.held_fix-in-loop-k.view_is ∙ c.held_fix.ensures) in
    sym (c.loop-k.invariant ∙ any_here test (held_in c.args.self.now) c.loop-k.k no_fix (omega (arith, c.loop-k-test.true, c.held_count-n.ensures.count)) (sym asked ∙ c.if-is_tied_to.true))

pub loop-k-preserved : goal.loop-k-preserved
loop-k-preserved c =
    let test : Fix → Bool = λ f. tied f.record_bytes c.args.r.bytes.now in
    let asked = c.is_tied_to.ensures ∙ ap test (c.held_fix-in-loop-k.view_is ∙ c.held_fix.ensures) in
    c.loop-k.invariant ∙ any-on test (held_in c.args.self.now) c.loop-k.k no_fix (omega (arith, c.loop-k-test.true, c.held_count-n.ensures.count)) (sym asked ∙ c.if-is_tied_to.false)

pub returns : goal.returns
returns c =
    sym (c.loop-k.invariant ∙ any-over (λ f. tied f.record_bytes c.args.r.bytes.now) (held_in c.args.self.now) c.loop-k.k (omega (arith, c.loop-k-test.false, c.held_count-n.ensures.count)))
