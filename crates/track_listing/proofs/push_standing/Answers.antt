use Rattle.std.proofs.Common.{◌<◌, length, sym, ap, ◌∙◌, arith}
use Rattle.std.proofs.lemmas.Option.{get_or_from_slice_get}
use Rattle.text.specs.Texts.{append}
use Rattle.text.proofs.Appending.{append-nil, append_more}
use Rattle.fixes.specs.Fix.{Fix}
use Rattle.fix_lines.specs.Text.{ranked_text}
use Rattle.track_listing.proofs.push_standing.Goals as goal

pub loop-k-init : goal.loop-k-init
loop-k-init c = sym (append-nil c.args.out.now)

pub loop-k-preserved : goal.loop-k-preserved
loop-k-preserved c =
    let h : c.loop-k.k < length c.args.block.now.fixes = omega (arith, c.loop-k-test.true, c.fix_count-n.ensures) in
    append_more ranked_text c.args.block.now.fixes c.loop-k.k c.fix-fix.result _ _ _ h c.loop-k.invariant
    (c.push_line.ensures ∙ ap (λ (f : Fix). append c.loop-k.out (ranked_text f)) (c.fix.view_is ∙ sym (get_or_from_slice_get c.args.block.now.fixes c.loop-k.k c.fix-fix.result c.fix-fix.result c.fix-fix.ensures)))
