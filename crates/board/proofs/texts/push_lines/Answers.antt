use Rattle.std.proofs.Common.{sym, ap, ◌∙◌, get_or, flat_map, take_all}
use Rattle.text.specs.Texts.{append}
use Rattle.text.proofs.Appending.{append-nil, append_more}
use Rattle.fixes.specs.Fix.{Fix}
use Rattle.fix_lines.specs.declared.Standing.TheVariants.{Ranked}
use Rattle.fix_lines.specs.Standings.{standing_line}
use Rattle.board_picture.specs.declared.line.Line.{Line}
use Rattle.board_picture.specs.Lines.{line_in}
use Rattle.board.specs.Drawn.{line_text}
use Rattle.board.proofs.Drawing.{flat-map}
use Rattle.board.proofs.texts.push_lines.Goals as goal

pub loop-line-init : goal.loop-line-init
loop-line-init c = sym (append-nil c.args.out.now)

pub loop-line-preserved : goal.loop-line-preserved
loop-line-preserved c =
    let d : Line = record { fix = 0; standing = Ranked; against = 0 } in
    let l : Line = get_or c.args.lines.now c.loop-line.line-index d in
    append_more (λ x. line_text (line_in c.args.picture.now.fixes x)) c.args.lines.now c.loop-line.line-index d _ _ _ c.loop-line-test.true c.loop-line.invariant
    (c.push_line.ensures ∙ ap (λ (f : Fix). append c.loop-line.out (standing_line l.standing f.record_bytes f.signers)) (c.fix.view_is ∙ c.fix-fix.ensures))

pub returns : goal.returns
returns c =
    let fs = c.args.picture.now.fixes in
    c.loop-line.invariant
    ∙ ap (append c.args.out.now) (ap (flat_map (λ x. line_text (line_in fs x))) (take_all _ c.args.lines.now c.loop-line-test.false) ∙ sym (flat-map line_text (line_in fs) c.args.lines.now))
