use Rattle.std.proofs.Common.{ap, ◌∙◌, flat_map}
use Rattle.text.specs.Texts.{append}
use Rattle.text.proofs.Appending.{append-then}
use Rattle.fix_lines.specs.Lines.{header}
use Rattle.board_picture.specs.declared.part.Counts.{Counts}
use Rattle.board.specs.Drawn.{line_text}
use Rattle.board.proofs.texts.push_transmission.Goals as goal

pub returns : goal.returns
returns c =
    append-then c.args.out.now c.push_header.new.out _ _ _
    (c.push_header.ensures ∙ ap (λ (n : Counts). append c.args.out.now (header c.args.number n.ranked n.dominated n.refused)) c.counts-counts.ensures)
    (c.push_lines.ensures ∙ ap (λ ls. append c.push_header.new.out (flat_map line_text ls)) c.lines.ensures.lines)
