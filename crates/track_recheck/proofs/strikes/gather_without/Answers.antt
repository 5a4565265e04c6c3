use Rattle.std.proofs.Common.{◌≡◌, ◌<◌, length, get_or, sym, ap, ap₂, ◌∙◌, arith}
use mathlib.Core.List.{map}
use lib.ListN.{length-map, get_or-map}
use Rattle.fixes.specs.Items.{no_fix}
use Rattle.track_transmission.specs.Held.{held_in}
use Rattle.track_normalize.specs.Normal.{gather}
use Rattle.track_normalize.specs.Signed.{is_signed}
use Rattle.track_normalize.proofs.Distinct.{gather-few}
use Rattle.track_recheck.specs.Recheck.{unsigned}
use Rattle.track_recheck.proofs.Standing.{none-left, one-left, one-less, all-left}
use Rattle.track_recheck.proofs.strikes.gather_without.Goals.{then-is_signed, else-is_signed}
use Rattle.track_recheck.proofs.strikes.gather_without.Goals as goal

pub loop-k-init : goal.loop-k-init
loop-k-init c = record { left = c.clear.ensures ∙ none-left is_signed (map (unsigned c.args.engine) (held_in c.args.block.now)); few = omega (arith, ap length c.clear.ensures) }

pub loop-k-preserved : goal.loop-k-preserved
loop-k-preserved c =
    let h = unsigned c.args.engine in
    let held = held_in c.args.block.now in
    let fs = map h held in
    let k = c.loop-k.k in
    let f = c.unsign.new.fix in
    let here : k < length fs = omega (arith, length-map held h, c.loop-k-test.true, c.held_count-k-end.ensures.count) in
    let is : f ≡ get_or fs k (h no_fix) = c.unsign.ensures ∙ ap h c.held_fix-fix.ensures ∙ sym (get_or-map h held k no_fix) in
    elim c.if-is_signed.branch [
      | then-is_signed w ↦
          let gathered = ap (λ x. x.items) w.left-is ∙ w.gather.ensures ∙ ap₂ gather c.loop-k.invariant.left w.identified.ensures in
          let one = w.gather.ensures ∙ ap (gather c.loop-k.left.items) w.identified.ensures in
          record {
            left = gathered ∙ one-left is_signed fs k f (h no_fix) here is (sym c.is_signed.ensures ∙ w.if-is_signed.true);
            few = omega (arith, ap (λ x. length x.items) w.left-is, ap length one, gather-few f c.loop-k.left.items, c.loop-k.invariant.few);
          }
      | else-is_signed w ↦
          record {
            left = ap (λ x. x.items) w.left-is ∙ c.loop-k.invariant.left ∙ one-less is_signed fs k f (h no_fix) here is (sym c.is_signed.ensures ∙ w.if-is_signed.false);
            few = omega (arith, ap (λ x. length x.items) w.left-is, c.loop-k.invariant.few);
          }
    ]

pub returns : goal.returns
returns c =
    let fs = map (unsigned c.args.engine) (held_in c.args.block.now) in
    c.loop-k.invariant.left ∙ all-left is_signed fs c.loop-k.k (omega (arith, length-map (held_in c.args.block.now) (unsigned c.args.engine), c.loop-k-test.false, c.held_count-k-end.ensures.count))
