use mathlib.Core.Path.{sym}
use Rattle.record.proofs.Record.parse.Goals as goal

pub of-requires : goal.of-requires
of-requires c = sym c.if-well_formed.ensures
