use Rattle.std.proofs.Common.{sym, ap, ◌∙◌, flat_map, take_all, List}
use Rattle.text.specs.Texts.{append}
use Rattle.text.proofs.Appending.{append-nil, append_more}
use Rattle.fix_lines.specs.declared.Standing.TheVariants.{Ranked}
use Rattle.board_picture.specs.declared.line.Line.{Line}
use Rattle.board_picture.specs.Lines.{ShownLine, line_in, with_fixes}
use Rattle.board_values.specs.Entries.{Entry}
use Rattle.board_values.specs.Written.{entry_bytes}
use Rattle.board_values.specs.Drawn.{line_entry}
use Rattle.board_values.proofs.Drawing.{flat-map}
use Rattle.board_values.proofs.texts.push_transmission.Goals as goal

pub loop-line-init : goal.loop-line-init
loop-line-init c = sym (append-nil c.args.out.now)

pub loop-line-preserved : goal.loop-line-preserved
loop-line-preserved c =
    let a = c.args in
    let d : Line = record { fix = 0; standing = Ranked; against = 0 } in
    let fs = a.picture.now.fixes in
    let ls = c.lines-lines.result.now in
    append_more (λ x. entry_bytes (line_entry a.register.now.records a.number a.before (with_fixes fs ls) (line_in fs x))) ls c.loop-line.line-index d _ _ _ c.loop-line-test.true c.loop-line.invariant
    (c.push_entry.ensures ∙ ap (λ (e : Entry). append c.loop-line.out (entry_bytes e)) c.entry_of.ensures)

pub returns : goal.returns
returns c =
    let a = c.args in
    let fs = a.picture.now.fixes in
    let ls = c.lines-lines.result.now in
    c.loop-line.invariant
    ∙ ap (append a.out.now)
    (ap (flat_map (λ x. entry_bytes (line_entry a.register.now.records a.number a.before (with_fixes fs ls) (line_in fs x)))) (take_all _ ls c.loop-line-test.false)
    ∙ sym (flat-map (λ (l : ShownLine). entry_bytes (line_entry a.register.now.records a.number a.before (with_fixes fs ls) l)) (line_in fs) ls)
    ∙ ap (λ (zs : List ShownLine). flat_map (λ (l : ShownLine). entry_bytes (line_entry a.register.now.records a.number a.before zs l)) zs) c.lines-lines.ensures.lines)
