use Rattle.std.proofs.Common.{◌≡◌, drop}
use Rattle.tables.specs.Places.{ascending_from, ascending}
use Rattle.tables.proofs.table.is_ascending.Given as goal

abbrev pub invariant-loop-place : goal.invariant-loop-place
invariant-loop-place g l = ascending g.row.KEY l.places ≡ ascending_from g.row.KEY l.last (drop l.place-index l.rest)
