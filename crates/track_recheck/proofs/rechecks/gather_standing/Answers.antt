use Rattle.std.proofs.Common.{◌<◌, length, sym, ap, ap₂, ◌∙◌, arith}
use Rattle.models.specs.Answers.{summary_places}
use Rattle.fixes.specs.Items.{no_fix}
use Rattle.track_transmission.specs.Held.{held_in}
use Rattle.track_normalize.specs.Normal.{gather}
use Rattle.track_normalize.proofs.Distinct.{gather-few}
use Rattle.track_recheck.specs.Recheck.{stands}
use Rattle.track_recheck.proofs.Standing.{none-left, one-left, one-less, all-left}
use Rattle.track_recheck.proofs.rechecks.gather_standing.Goals.{then-stands, else-stands}
use Rattle.track_recheck.proofs.rechecks.gather_standing.Goals as goal

pub loop-k-init : goal.loop-k-init
loop-k-init c = record { left = c.clear.ensures ∙ none-left (stands (summary_places c.args.summaries)) (held_in c.args.block.now); few = omega (arith, ap length c.clear.ensures) }

pub loop-k-preserved : goal.loop-k-preserved
loop-k-preserved c =
    let test = stands (summary_places c.args.summaries) in
    let fs = held_in c.args.block.now in
    let k = c.loop-k.k in
    let f = c.held_fix-fix.result in
    let here : k < length fs = omega (arith, c.loop-k-test.true, c.held_count-k-end.ensures.count) in
    elim c.if-stands.branch [
      | then-stands w ↦
          let gathered = ap (λ x. x.items) w.left-is ∙ w.gather.ensures ∙ ap₂ gather c.loop-k.invariant.left w.identified.ensures in
          let one = w.gather.ensures ∙ ap (gather c.loop-k.left.items) w.identified.ensures in
          record {
            left = gathered ∙ one-left test fs k f no_fix here c.held_fix-fix.ensures (sym c.stands.ensures ∙ w.if-stands.true);
            few = omega (arith, ap (λ x. length x.items) w.left-is, ap length one, gather-few f c.loop-k.left.items, c.loop-k.invariant.few);
          }
      | else-stands w ↦
          record {
            left = ap (λ x. x.items) w.left-is ∙ c.loop-k.invariant.left ∙ one-less test fs k f no_fix here c.held_fix-fix.ensures (sym c.stands.ensures ∙ w.if-stands.false);
            few = omega (arith, ap (λ x. length x.items) w.left-is, c.loop-k.invariant.few);
          }
    ]

pub returns : goal.returns
returns c =
    c.loop-k.invariant.left ∙ all-left (stands (summary_places c.args.summaries)) (held_in c.args.block.now) c.loop-k.k (omega (arith, c.loop-k-test.false, c.held_count-k-end.ensures.count))
