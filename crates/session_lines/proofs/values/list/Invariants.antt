use Rattle.std.proofs.Common.{◌≡◌, ◌-◌, ◌++◌, List, option_map}
use Rattle.arrayvec.specs.ArrayVec.{array_vec_len}
use Rattle.session_lines.specs.Numbers as Val
use Rattle.session_lines.proofs.values.list.Given as goal

abbrev pub invariant-loop-rest : goal.invariant-loop-rest
invariant-loop-rest g l =
    Val.read_list g.T.Value.reading g.row.ROOM l.text ≡ option_map (λ (m : List _). l.values.items ++ m) (Val.read_list g.T.Value.reading (g.row.ROOM - array_vec_len l.values) l.rest)

abbrev pub decreases-loop-rest : goal.decreases-loop-rest
decreases-loop-rest g l = g.row.ROOM - array_vec_len l.values
