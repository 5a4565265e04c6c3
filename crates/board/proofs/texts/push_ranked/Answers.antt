use Rattle.std.proofs.Common.{ap, ◌∙◌, flat_map}
use Rattle.text.specs.Texts.{append}
use Rattle.text.proofs.Appending.{append-then}
use Rattle.board.specs.Drawn.{line_text}
use Rattle.board.proofs.texts.push_ranked.Goals as goal

pub returns : goal.returns
returns c =
    append-then c.args.out.now c.push_crew_header.new.out _ _ _ c.push_crew_header.ensures
    (c.push_lines.ensures ∙ ap (λ ls. append c.push_crew_header.new.out (flat_map line_text ls)) c.ranked.ensures.lines)
