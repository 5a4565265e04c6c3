use Rattle.std.proofs.Common.{◌≡◌, map, string_bytes, drop}
use Rattle.session_arguments.specs.Calling as C
use Rattle.session_arguments.proofs.asked.Given as goal

-- what is left of the words decides
abbrev pub invariant-loop-index : goal.invariant-loop-index
invariant-loop-index l = C.asked_of (map string_bytes l.words) ≡ C.taken l.wish l.index (drop l.index (map string_bytes l.words))
