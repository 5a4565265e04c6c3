use Rattle.std.proofs.Common.{◌≡◌, map, string_bytes, drop}
use Rattle.rooms_arguments.specs.Calling as C
use Rattle.rooms_arguments.proofs.asked.Given as goal

-- what is left of the words decides
abbrev pub invariant-loop-index : goal.invariant-loop-index
invariant-loop-index l = C.asked_of (map string_bytes l.words) ≡ C.finished (C.taken l.taken l.index (drop l.index (map string_bytes l.words)))
