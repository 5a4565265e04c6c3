use Rattle.std.proofs.Common.{◌≡◌}
use Rattle.pictures_text.proofs.Lines.{first_lines}
use Rattle.pictures_text.proofs.pictures.Given as goal

abbrev pub invariant-loop-k : goal.invariant-loop-k
invariant-loop-k l = l.text.items ≡ first_lines l.k
