use Rattle.std.proofs.Common.{take}
use Rattle.octets.specs.Put.{Put}
use Rattle.decision_bytes.specs.Answer.{each_bytes}
use Rattle.decision_bytes.proofs.put_refusals.Given as goal

abbrev pub invariant-loop-x : goal.invariant-loop-x
invariant-loop-x l = Put l.initial.out l.initial.next (each_bytes (take l.x-index l.refusals)) l.next l.out
