-- The records that are left are the rest of those that are written.
use Rattle.std.proofs.Common.{drop}
use Rattle.signed_records.specs.Signed.{place_size}
use Rattle.register.specs.Layout.{max_records}
use Rattle.register_join.specs.Lacks.{lacking_records}
use Rattle.register_join.proofs.Filling.{Filled}
use Rattle.register_join.proofs.lack.write_records.Given as goal

abbrev pub invariant-loop-place : goal.invariant-loop-place
invariant-loop-place l = Filled place_size max_records (lacking_records l.convicted l.mine l.theirs) l.out l.count (lacking_records l.convicted l.mine (drop l.place-index l.theirs))
