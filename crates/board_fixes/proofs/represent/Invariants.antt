use Rattle.board_fixes.proofs.Representing.{Walked}
use Rattle.board_fixes.proofs.represent.Given as goal

abbrev pub invariant-loop-signed : goal.invariant-loop-signed
invariant-loop-signed l = Walked l.register.summaries l.register.records l.signed-iterator l.fixes.items
