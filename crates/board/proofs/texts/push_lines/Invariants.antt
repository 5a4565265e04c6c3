use Rattle.std.proofs.Common.{◌≡◌, take, flat_map}
use Rattle.text.specs.Texts.{append}
use Rattle.board_picture.specs.Lines.{line_in}
use Rattle.board.specs.Drawn.{line_text}
use Rattle.board.proofs.texts.push_lines.Given as goal

abbrev pub invariant-loop-line : goal.invariant-loop-line
invariant-loop-line l = l.out ≡ append l.initial.out (flat_map (λ x. line_text (line_in l.picture.fixes x)) (take l.line-index l.lines))
