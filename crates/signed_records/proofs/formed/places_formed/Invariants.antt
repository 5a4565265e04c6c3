use Prim.Native.Nat.{◌*◌}
use Rattle.signed_records.specs.Begins.{begin_formed}
use Rattle.tables.proofs.Testing.{Passed}
use Rattle.signed_records.proofs.formed.places_formed.Given as goal

abbrev pub invariant-loop-i : goal.invariant-loop-i
invariant-loop-i l = Passed (begin_formed l.convicted) l.w l.n l.t l.i (l.i * l.w)
