use Rattle.std.proofs.Common.{map, take}
use Rattle.board_transmissions.specs.Links.{members_of}
use Rattle.board_picture.specs.Lines.{Appends, line_refused}
use Rattle.board_picture.proofs.deciding.push_refused.Given as goal

abbrev pub invariant-loop-refusal : goal.invariant-loop-refusal
invariant-loop-refusal l = Appends l.transmission.fixes l.initial.lines.items l.lines.items (map (line_refused (members_of l.transmission)) (take l.refusal-index l.refusals))
