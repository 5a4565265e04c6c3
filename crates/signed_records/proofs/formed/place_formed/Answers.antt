use Rattle.std.proofs.Common.{sym, arith, length-take-le}
use Rattle.record.specs.Layout.{record_size}
use Rattle.signed_records.proofs.formed.place_formed.Goals as goal

pub slice_bounds-well_formed-end : goal.slice_bounds-well_formed-end
slice_bounds-well_formed-end c = sym (length-take-le record_size c.args.p.now (omega (arith, c.requires)))
