use Rattle.board_transmissions.proofs.Parting.{Walked}
use Rattle.board_transmissions.proofs.parts.Transmissions.of.Given as goal

abbrev pub invariant-loop-s : goal.invariant-loop-s
invariant-loop-s l = Walked l.fixes l.s l.marks l.labels l.firsts.items
