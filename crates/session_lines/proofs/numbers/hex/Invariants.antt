use Rattle.std.proofs.Common.{◌≡◌, ◌≤◌, ◌+◌, ◌/◌, ◌++◌, List, ℕ, length, option_map}
use Rattle.arrayvec.specs.ArrayVec.{array_vec_len}
use Rattle.session_lines.specs.Numbers as Val
use Rattle.session_lines.proofs.numbers.hex.Given as goal

abbrev pub invariant-loop-rest : goal.invariant-loop-rest
invariant-loop-rest g l = record {
  room : array_vec_len l.bytes + length l.rest / 2 ≤ g.row.ROOM;
  whole : Val.hex_bytes l.text ≡ option_map (λ (m : List ℕ). l.bytes.items ++ m) (Val.hex_bytes l.rest);
}

abbrev pub decreases-loop-rest : goal.decreases-loop-rest
decreases-loop-rest g l = length l.rest
