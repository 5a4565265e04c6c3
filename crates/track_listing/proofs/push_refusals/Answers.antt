use Rattle.std.proofs.Common.{◌<◌, length, sym, ap, ◌∙◌, arith}
use Rattle.std.proofs.lemmas.Option.{get_or_from_slice_get}
use Rattle.text.specs.Texts.{append}
use Rattle.text.proofs.Appending.{append-nil, append_more}
use Rattle.track_listing.specs.Listing.{refused_text}
use Rattle.track_listing.proofs.push_refusals.Goals as goal

pub loop-k-init : goal.loop-k-init
loop-k-init c = sym (append-nil c.args.out.now)

pub loop-k-preserved : goal.loop-k-preserved
loop-k-preserved c =
    let h : c.loop-k.k < length c.args.block.now.refused = omega (arith, c.loop-k-test.true, c.refused_count-n.ensures) in
    append_more refused_text c.args.block.now.refused c.loop-k.k c.refusal.result _ _ _ h c.loop-k.invariant
    (c.push_refusal.ensures ∙ ap (λ x. append c.loop-k.out (refused_text x)) (sym (get_or_from_slice_get c.args.block.now.refused c.loop-k.k c.refusal.result c.refusal.result c.refusal.ensures)))
