use Rattle.std.proofs.Common.{Bool, arith, sym, ap, ◌∙◌}
use Rattle.std.specs.Prelude.{not}
use Rattle.models.specs.Answers.{summary_places}
use Rattle.fixes.specs.Fix.{Fix}
use Rattle.fixes.specs.Items.{no_fix}
use Rattle.track_transmission.specs.Held.{held_in}
use Rattle.track_transmission.proofs.Searching.{any_here, any-on, any-over}
use Rattle.track_recheck.specs.Recheck.{stands}
use Rattle.track_recheck.proofs.rechecks.has_stale.Goals as goal

pub returns-then-not-stands : goal.returns-then-not-stands
returns-then-not-stands c =
    let test : Fix → Bool = λ f. not (stands (summary_places c.args.summaries) f) in
    let asked = c.stands.ensures ∙ ap (stands (summary_places c.args.summaries)) c.held_fix.ensures in
    sym (c.loop-k.invariant ∙ any_here test (held_in c.args.block.now) c.loop-k.k no_fix (omega (arith, c.loop-k-test.true, c.held_count-k-end.ensures.count)) (ap not (sym asked ∙ c.if-not-stands.true)))

pub loop-k-preserved : goal.loop-k-preserved
loop-k-preserved c =
    let test : Fix → Bool = λ f. not (stands (summary_places c.args.summaries) f) in
    let asked = c.stands.ensures ∙ ap (stands (summary_places c.args.summaries)) c.held_fix.ensures in
    c.loop-k.invariant ∙ any-on test (held_in c.args.block.now) c.loop-k.k no_fix (omega (arith, c.loop-k-test.true, c.held_count-k-end.ensures.count)) (ap not (sym asked ∙ c.if-not-stands.false))

pub returns : goal.returns
returns c =
    sym (c.loop-k.invariant ∙ any-over (λ f. not (stands (summary_places c.args.summaries) f)) (held_in c.args.block.now) c.loop-k.k (omega (arith, c.loop-k-test.false, c.held_count-k-end.ensures.count)))
