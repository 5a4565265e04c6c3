use Rattle.std.proofs.Common.{◌≡◌}
use Rattle.session_text.specs.Found.{behind_lines}
use Rattle.session_text.proofs.found.from_line.Given as goal

abbrev pub invariant-lines : goal.invariant-lines
invariant-lines l = behind_lines l._number l.input ≡ l.rest
