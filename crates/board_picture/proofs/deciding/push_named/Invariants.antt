use Rattle.std.proofs.Common.{map, take}
use Rattle.fixes.specs.Items.{fix_at}
use Rattle.board_transmissions.specs.Links.{members_of}
use Rattle.board_picture.specs.Lines.{Appends, line_of}
use Rattle.board_picture.proofs.deciding.push_named.Given as goal

abbrev pub invariant-loop-i : goal.invariant-loop-i
invariant-loop-i l = Appends l.transmission.fixes l.initial.lines.items l.lines.items (map (λ i. line_of l.standing (fix_at (members_of l.transmission) i)) (take l.i-index l.named))
