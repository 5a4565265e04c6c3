use Rattle.std.proofs.Common.{◌≡◌, take, flat_map}
use Rattle.text.specs.Texts.{append}
use Rattle.board_picture.specs.Lines.{line_in, with_fixes}
use Rattle.board_values.specs.Written.{entry_bytes}
use Rattle.board_values.specs.Drawn.{line_entry}
use Rattle.board_values.proofs.texts.push_transmission.Given as goal

abbrev pub invariant-loop-line : goal.invariant-loop-line
invariant-loop-line l = l.out ≡ append l.initial.out (flat_map (λ x. entry_bytes (line_entry l.register.records l.number l.before (with_fixes l.picture.fixes l.lines) (line_in l.picture.fixes x))) (take l.line-index l.lines))
