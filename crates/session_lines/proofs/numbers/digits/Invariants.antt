use Rattle.std.proofs.Common.{◌≡◌, ◌≤◌, drop}
use Rattle.session_lines.specs.Numbers as Val
use Rattle.session_lines.proofs.numbers.digits.Given as goal

abbrev pub invariant-loop-d : goal.invariant-loop-d
invariant-loop-d l = (l.value ≤ l.most) × (Val.digits_after l.most 0 l.text ≡ Val.digits_after l.most l.value (drop l.d-index l.text))
